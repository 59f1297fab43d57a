use mathlib.Core.Path.{◌≡◌, ap}
use Prim.Native.Nat.{ℕ, ◌+◌}
use Rattle.std.specs.List.{flat_map}
use Rattle.model.specs.Lists.{range}
use Rattle.cnf.specs.Parts.{row_text, node_text}
use Rattle.text.proofs.Writes.{turn, room, same_text}
use native.Mathlib.Omega.{arith}
use Rattle.cnf.proofs.totalizer.put_node.Goals as goal

pub put_row-n-requires : goal.put_row-n-requires
unfolding node_text
put_row-n-requires c = record { small = c.requires.small; p_le_a = omega arith; p_in_bounds = room (row_text c.args.t) c.loop-p.p (c.args.t.a + 1) c.loop-p.invariant c.loop-p-test.true c.requires.t_in_bounds }

pub loop-p-preserved : goal.loop-p-preserved
loop-p-preserved c = turn (row_text c.args.t) c.loop-p.p c.loop-p.invariant c.put_row-n.ensures

pub returns : goal.returns
unfolding node_text
returns c = let e : c.loop-p.p ≡ c.args.t.a + 1 = omega arith in same_text (ap (λ (k : ℕ). flat_map (row_text c.args.t) (range 0 k)) e) c.loop-p.invariant
