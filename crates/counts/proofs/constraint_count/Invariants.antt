-- `constraint_count` counts the clauses that a constraint keeps. Assumes nothing.
use mathlib.Core.Path.{◌≡◌}
use mathlib.Core.List.{map}
use Prim.Native.Nat.{◌*◌, ◌≤◌}
use lib.ListN.{take}
use Rattle.model.specs.Limits.{limits}
use Rattle.model.specs.Lists.{total, range}
use Rattle.counts.specs.Counts.{entrant_count}
use Rattle.terms.specs.Terms.{member_number}
use Rattle.counts.proofs.constraint_count.Given as goal

abbrev pub invariant-loop-e : goal.invariant-loop-e
invariant-loop-e l = (l.r ≡ total (λ i. entrant_count (map (member_number i) (take l.k l.ms)) l.code l.count) (range 0 l.e)) × (l.r ≤ l.e * limits.members)
