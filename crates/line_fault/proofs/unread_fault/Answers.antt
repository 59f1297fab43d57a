-- `unread_fault` names the first bad field. Assumes nothing.
use Prim.Native.Nat.{◌/◌}
use native.Mathlib.Omega.{arith}
use lib.ListN.{length}
use Rattle.model.specs.Sheet.{good_field}
use Rattle.line_fault.specs.Fault.{bad_field, unread_fault}
use Rattle.line_fault.proofs.Places.{first-bound}
use Rattle.line_fault.proofs.unread_fault.Goals as goal

pub columns_of-requires : goal.columns_of-requires
unfolding bad_field
columns_of-requires c = let l = c.args.line.now in omega (arith, c.first_bad-i.ensures, c.requires, first-bound (good_field l) 0 (length l / 4))

pub returns : goal.returns
unfolding unread_fault
returns c = rw (← c.first_bad-i.ensures, ← c.field.ensures, ← c.four_of-four.ensures, ← c.columns_of.ensures)
