-- `sum_groups` adds up the clauses of the first groups. Assumes nothing.
use mathlib.Core.Path.{◌≡◌}
use Prim.Native.Nat.{◌*◌, ◌≤◌}
use lib.ListN.{take}
use Rattle.model.specs.Limits.{limits}
use Rattle.model.specs.Lists.{total}
use Rattle.model.specs.Cnf.{group_clause_count}
use Rattle.counts.proofs.sum_groups.Given as goal

abbrev pub invariant-loop-g : goal.invariant-loop-g
invariant-loop-g l = (l.r ≡ total group_clause_count (take l.g-index (take l.s l.groups))) × (l.r ≤ l.g-index * limits.block)
