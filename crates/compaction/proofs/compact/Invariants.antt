-- `compact` keeps what holds: the invariant says which clauses have moved and which are still to move. Assumes nothing.
use Prim.Native.Nat.{◌-◌, ◌≤◌}
use mathlib.Core.Bool.{Bool}
use mathlib.Core.List.{List}
use mathlib.Core.Path.{◌≡◌}
use lib.ListN.{length}
use Rattle.refutation.specs.Sound.{Holds}
use Rattle.compaction.specs.Walk.{Walk}
use Rattle.compaction.proofs.compact.Given as goal

abbrev pub invariant-loop-from : goal.invariant-loop-from
invariant-loop-from l = (length l.store ≡ length l.initial.store) × (length l.index ≡ length l.initial.index) × (1 ≤ l.from) × (l.to ≤ l.from) × (l.from ≤ l.top) × ((a : List Bool) → Holds a l.s l.initial.store l.initial.index l.marks → Walk a l.from l.to l.top l.store l.index)

abbrev pub decreases-loop-from : goal.decreases-loop-from
decreases-loop-from l = l.top - l.from
