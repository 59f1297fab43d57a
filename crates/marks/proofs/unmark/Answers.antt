-- `unmark` stores in the word of a place that is there. Assumes nothing.
use Prim.Native.Nat.{◌%◌}
use native.Mathlib.Omega.{arith}
use Rattle.model.proofs.Words.{shifted}
use Rattle.marks.specs.Marks.{without_mark}
use Rattle.marks.proofs.Bits.{unmark-past}
use Rattle.marks.proofs.unmark.Goals as goal

pub returns-then-i-marks : goal.returns-then-i-marks
unfolding without_mark
returns-then-i-marks c = rw (c.without.ensures, shifted (c.args.i % 64) (omega arith))

pub returns-else-i-marks : goal.returns-else-i-marks
returns-else-i-marks c = unmark-past _ c.args.i (omega arith)
