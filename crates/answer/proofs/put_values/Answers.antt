use Prim.Native.Nat.{ℕ}
use mathlib.Core.Path.{◌≡◌, ap}
use native.Mathlib.Omega.{arith}
use lib.ListN.{length}
use Rattle.std.specs.List.{flat_map}
use Rattle.model.specs.Lists.{range}
use Rattle.text.proofs.Writes.{same_text, turn, room}
use Rattle.answer.specs.Values.{value_at, said_text}
use Rattle.answer.proofs.put_values.Goals as goal

pub put_value-n-requires : goal.put_value-n-requires
unfolding said_text
put_value-n-requires c =
    room (value_at c.args.values.now) c.loop-i.i (length c.args.values.now) c.loop-i.invariant c.loop-i-test.true c.requires.values_in_bounds

pub loop-i-preserved : goal.loop-i-preserved
loop-i-preserved c = turn (value_at c.args.values.now) c.loop-i.i c.loop-i.invariant c.put_value-n.ensures

pub returns : goal.returns
unfolding said_text
returns c =
    let all : c.loop-i.i ≡ length c.args.values.now = omega (arith) in
    same_text (ap (λ (k : ℕ). flat_map (value_at c.args.values.now) (range 0 k)) all) c.loop-i.invariant
