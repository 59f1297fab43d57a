-- `field` gives the four bytes of a field, or nothing. Assumes nothing.
use native.Mathlib.Nat.{add-sub_cancel_left}
use Rattle.model.specs.Sheet.{field_at}
use borrow.Author.Tests.{lt-ltb, le-ltb}
use Rattle.sheet.proofs.field.Goals as goal

pub returns-then-i-n : goal.returns-then-i-n
unfolding field_at
returns-then-i-n c = simp (lt-ltb _ _ c.if-i-n.true, add-sub_cancel_left)

pub returns-else-i-n : goal.returns-else-i-n
unfolding field_at
returns-else-i-n c = simp (le-ltb _ _ c.if-i-n.false)
