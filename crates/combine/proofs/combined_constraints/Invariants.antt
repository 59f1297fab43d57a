-- `combined_constraints` stores the lines of a, then those of b. Invariants: the first i of a, then zeros; these k, the first j of b, then zeros.
-- Assumes nothing.
use Prim.Native.Nat.{ℕ}
use mathlib.Core.List.{[]}
use lib.ListN.{take}
use Rattle.model.specs.Limits.{limits}
use Rattle.combine.proofs.Lines.{Stored}
use Rattle.combine.proofs.combined_constraints.Given as goal

abbrev pub n : ℕ
n = limits.constraints

abbrev pub invariant-loop-i : goal.invariant-loop-i
invariant-loop-i l = Stored n [] l.a l.i l.constraints

abbrev pub invariant-loop-j : goal.invariant-loop-j
invariant-loop-j l = Stored n (take l.k l.initial.constraints) l.b l.j l.constraints
