use mathlib.Core.Path.{sym, ap, subst}
use mathlib.Core.List.{[]}
use native.Mathlib.Omega.{arith}
use lib.Dec.{T}
use lib.ListN.{length, take, length-take}
use lib.Seq.{get_or-take}
use Rattle.model.specs.declared.Constraint.{Constraint}
use Rattle.model.specs.Model.{constraint_sized, constraint_in_range}
use Rattle.model.specs.Fill.{difference_values, values_of}
use Rattle.model.proofs.Lists.{every-getD}
use Rattle.text.proofs.Writes.{done, kept, then, same_text}
use Rattle.filling.proofs.Pairs.{pair_is}
use Rattle.filling.proofs.Values.{constraints-next, constraints-room}
use Rattle.filling.proofs.put_all_differences.Goals as goal

-- what stands for a constraint that the array does not have
abbrev none : Constraint
none = record { code = 0; count = 0; groups = [] }

pub loop-j-init : goal.loop-j-init
unfolding values_of
loop-j-init c = done _ _ (omega (arith, c.requires.constraints_in_bounds))

pub put_differences-k-requires-clause-c_in_bounds : goal.put_differences-k-requires-clause-c_in_bounds
put_differences-k-requires-clause-c_in_bounds c =
    let l = c.loop-j in
    let w = l.invariant in
    let cs = c.args.constraints.now in
    let f = difference_values c.args.n (take c.args.s c.args.groups.now) (take c.args.s c.args.words.now) in
    let ranged =
    subst (λ l. T (constraint_in_range c.args.s l)) (get_or-take c.args.c cs l.j none (omega arith))
    (every-getD (constraint_in_range c.args.s) (take c.args.c cs) none l.j c.requires.t.0 (omega (arith, length-take c.args.c cs))) in
    let sized = every-getD constraint_sized cs none l.j c.requires.t.1 (omega arith) in
    let text = pair_is c.args.n c.args.s c.args.groups.now c.args.words.now _ ranged sized _ _ c.group_at-f.ensures c.group_at-g.ensures in
    omega (arith, ap length text, constraints-room f cs l.j c.args.c none (omega arith) (omega arith), c.requires.constraints_in_bounds, w.next, kept w)

pub loop-j-preserved : goal.loop-j-preserved
loop-j-preserved c =
    let l = c.loop-j in
    let cs = c.args.constraints.now in
    let f = difference_values c.args.n (take c.args.s c.args.groups.now) (take c.args.s c.args.words.now) in
    let ranged =
    subst (λ l. T (constraint_in_range c.args.s l)) (get_or-take c.args.c cs l.j none (omega arith))
    (every-getD (constraint_in_range c.args.s) (take c.args.c cs) none l.j c.requires.t.0 (omega (arith, length-take c.args.c cs))) in
    let sized = every-getD constraint_sized cs none l.j c.requires.t.1 (omega arith) in
    let text = pair_is c.args.n c.args.s c.args.groups.now c.args.words.now _ ranged sized _ _ c.group_at-f.ensures c.group_at-g.ensures in
    same_text (sym (constraints-next f cs l.j none (omega arith))) (then l.invariant (same_text text c.put_differences-k.ensures))
