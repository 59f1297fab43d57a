-- `line_at` goes line by line. Invariant: the line sought is as many lines on from `at` as are left. Assumes nothing.
use Prim.Native.Nat.{◌≤◌, ◌-◌}
use mathlib.Core.Path.{◌≡◌}
use lib.ListN.{length, drop}
use Rattle.sheet_fault.specs.Fault.{line_at}
use Rattle.sheet_fault.proofs.line_at.Given as goal

abbrev pub invariant-loop-line : goal.invariant-loop-line
invariant-loop-line l = (l.at ≤ length l.sheet) × (line_at l.sheet l.done ≡ line_at (drop l.at l.sheet) (l.done - l._line))
