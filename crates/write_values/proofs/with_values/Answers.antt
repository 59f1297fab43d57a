-- `with_values` lends as many values as there are variables. Assumes nothing.
use lib.ListN.{length-take}
use native.Mathlib.Omega.{arith}
use Rattle.write_values.proofs.with_values.Goals as goal

pub slice_bounds-write_back-end : goal.slice_bounds-write_back-end
slice_bounds-write_back-end c = simp length-take (omega (arith, c.unsaid-all.ensures))
