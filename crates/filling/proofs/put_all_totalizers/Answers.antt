use mathlib.Core.Path.{sym}
use native.Mathlib.Omega.{arith}
use Rattle.model.specs.Model.{zero_group}
use Rattle.model.specs.Fill.{output_values, values_of}
use Rattle.text.proofs.Writes.{done, kept, then, same_text}
use Rattle.filling.proofs.Values.{groups-next, groups-room}
use Rattle.filling.proofs.put_all_totalizers.Goals as goal

pub loop-i-init : goal.loop-i-init
unfolding values_of
loop-i-init c = done _ _ (omega (arith, c.requires.words_in_bounds))

pub put_totalizer-k-requires-clause-w_in_bounds : goal.put_totalizer-k-requires-clause-w_in_bounds
unfolding zero_group
put_totalizer-k-requires-clause-w_in_bounds c =
    let w = c.loop-i.invariant in
    let r = groups-room (output_values c.args.n) c.args.groups.now c.args.words.now c.loop-i.i c.args.s (omega arith) (omega arith) (omega arith) in
    omega (arith, r, c.requires.words_in_bounds, w.next, kept w)

pub loop-i-preserved : goal.loop-i-preserved
unfolding zero_group
loop-i-preserved c =
    same_text (sym (groups-next (output_values c.args.n) c.args.groups.now c.args.words.now c.loop-i.i (omega arith) (omega arith)))
    (then c.loop-i.invariant c.put_totalizer-k.ensures)
