-- `line_count` goes line by line. Invariant: the lines counted and those from `at` on are all. Assumes nothing.
use Prim.Native.Nat.{◌+◌, ◌-◌, ◌≤◌}
use mathlib.Core.Path.{◌≡◌}
use lib.ListN.{length, drop}
use Rattle.model.specs.Sheet.{lines_of}
use Rattle.sheet_fault.proofs.line_count.Given as goal

abbrev pub invariant-loop-at : goal.invariant-loop-at
invariant-loop-at l = (l.at ≤ length l.sheet) × (l.count ≤ l.at) × (length (lines_of l.sheet) ≡ l.count + length (lines_of (drop l.at l.sheet)))

abbrev pub decreases-loop-at : goal.decreases-loop-at
decreases-loop-at l = length l.sheet - l.at
