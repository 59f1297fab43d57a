-- `note` sets the bit of a variable. Assumes nothing.
use Prim.Native.Nat.{◌-◌, ◌%◌}
use Rattle.literals.specs.Line.{with_flag, noted_with}
use Rattle.model.proofs.Words.{shifted}
use native.Mathlib.Omega.{arith}
use borrow.Author.Tests.{lt-ltb, le-ltb}
use Rattle.literals.proofs.note.Goals as goal

pub returns-then-i-lt-NOTED : goal.returns-then-i-lt-NOTED
unfolding noted_with with_flag
returns-then-i-lt-NOTED c = let i = c.args.v - 1 in simp (lt-ltb _ _ c.if-i-lt-NOTED.true, shifted (i % 64) (omega arith))

pub returns-else-i-lt-NOTED : goal.returns-else-i-lt-NOTED
unfolding noted_with
returns-else-i-lt-NOTED c = simp (le-ltb _ _ c.if-i-lt-NOTED.false)
