-- `sum_constraints` adds up the clauses of the first constraints. Assumes nothing.
use mathlib.Core.Path.{◌≡◌}
use Prim.Native.Nat.{◌+◌, ◌*◌, ◌≤◌}
use lib.ListN.{length, take}
use Rattle.model.specs.Limits.{limits}
use Rattle.model.specs.Lists.{total}
use Rattle.model.specs.Cnf.{constraint_clauses}
use Rattle.counts.proofs.sum_constraints.Given as goal

abbrev pub invariant-loop-x : goal.invariant-loop-x
invariant-loop-x l = (l.r ≡ total (λ x. length (constraint_clauses l.n (take l.s l.groups) 0 x)) (take l.x-index (take l.c l.constraints))) × (l.r ≤ l.x-index * (limits.entrants * limits.members + 1))
