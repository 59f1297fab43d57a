-- `line_length` counts the bytes before the first byte 10. Invariant: those that are passed, and those of the rest. Assumes nothing.
use Prim.Native.Nat.{◌≤◌, ◌+◌, ◌-◌}
use mathlib.Core.Path.{◌≡◌}
use lib.ListN.{length}
use Rattle.sheet.specs.Line.{line_length}
use Rattle.sheet.proofs.line_length.Given as goal

abbrev pub invariant-loop-bytes : goal.invariant-loop-bytes
invariant-loop-bytes l = (length l.rest ≤ length l.s) × (line_length l.s ≡ (length l.s - length l.rest) + line_length l.rest)

abbrev pub decreases-loop-bytes : goal.decreases-loop-bytes
decreases-loop-bytes l = length l.rest
