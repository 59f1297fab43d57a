-- `mark` stores in the word of a place that is there. Assumes nothing.
use Prim.Native.Nat.{◌%◌}
use native.Mathlib.Omega.{arith}
use Rattle.model.proofs.Words.{shifted}
use Rattle.marks.specs.Marks.{with_mark}
use Rattle.marks.proofs.Bits.{mark-past}
use Rattle.marks.proofs.mark.Goals as goal

pub returns-then-i-marks : goal.returns-then-i-marks
unfolding with_mark
returns-then-i-marks c = simp (shifted (c.args.i % 64) (omega arith))

pub returns-else-i-marks : goal.returns-else-i-marks
returns-else-i-marks c = mark-past _ c.args.i (omega arith)
