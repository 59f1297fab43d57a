-- `entrant_count` counts the clauses that an entrant keeps. Assumes nothing.
use mathlib.Core.Path.{◌≡◌}
use Prim.Native.Nat.{◌≤◌}
use Rattle.model.specs.Lists.{total, range}
use Rattle.counts.specs.Counts.{kept_count}
use Rattle.counts.proofs.entrant_count.Given as goal

abbrev pub invariant-loop-j : goal.invariant-loop-j
invariant-loop-j l = (l.r ≡ total (kept_count l.ns l.code l.count) (range 0 l.j)) × (l.r ≤ l.j)
