-- `main` lends what was read of the sheet. Assumes nothing.
use mathlib.Core.Path.{refl}
use Rattle.certify.proofs.main.Goals as goal

pub slice_bounds-space-end : goal.slice_bounds-space-end
slice_bounds-space-end c = (c.in-Some.ensures _ refl).0
