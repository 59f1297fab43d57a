-- `first_out` goes field by field. Invariant: the first field out of its range is the first from i on. Assumes nothing.
use Prim.Native.Nat.{◌-◌, ◌/◌, ◌≤◌, max}
use mathlib.Core.Path.{◌≡◌}
use lib.ListN.{length}
use Rattle.line_fault.specs.Fault.{first_not, in_range, out_field}
use Rattle.line_fault.proofs.first_out.Given as goal

abbrev pub invariant-loop-i : goal.invariant-loop-i
invariant-loop-i l = (l.i ≤ max (length l.line / 4) l.first) × (out_field l.h l.done l.line ≡ first_not (in_range l.h l.done l.line) l.i (length l.line / 4 - l.i))
