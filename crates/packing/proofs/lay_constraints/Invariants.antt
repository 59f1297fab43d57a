-- `lay_constraints`: the words of the constraints passed stand from `at` on, and the rest of the slice is as it was. Assumes nothing.
use Prim.Native.Nat.{ℕ, ◌+◌}
use Rattle.model.specs.Limits.{limits}
use Rattle.packing.specs.Packing.{constraint_words}
use Rattle.packing.proofs.Laid.{Laying}
use Rattle.packing.proofs.lay_constraints.Given as goal

abbrev pub width : ℕ
width = 2 + limits.members

abbrev pub invariant-loop-i : goal.invariant-loop-i
invariant-loop-i l = Laying constraint_words width l.constraints limits.constraints l.at l.initial.words l.words l.i
