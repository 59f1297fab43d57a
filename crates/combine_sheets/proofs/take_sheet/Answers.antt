-- `take_sheet` lends what was read of the sheet. Assumes nothing.
use mathlib.Core.Path.{refl}
use Rattle.combine_sheets.proofs.take_sheet.Goals as goal

pub slice_bounds-space-end : goal.slice_bounds-space-end
slice_bounds-space-end g c = (c.in_ok-n.ensures _ refl).0
