-- `first_bad` goes field by field. Invariant: the first bad field is the first from i on. Assumes nothing.
use Prim.Native.Nat.{◌-◌, ◌/◌}
use mathlib.Core.Path.{◌≡◌}
use lib.ListN.{length}
use Rattle.model.specs.Sheet.{good_field}
use Rattle.line_fault.specs.Fault.{first_not, bad_field}
use Rattle.line_fault.proofs.first_bad.Given as goal

abbrev pub invariant-loop-i : goal.invariant-loop-i
invariant-loop-i l = bad_field l.line ≡ first_not (good_field l.line) l.i (length l.line / 4 - l.i)
