-- `print_groups` writes the text that it was given. Assumes nothing.
use mathlib.Core.Path.{sym, ◌∙◌}
use native.Mathlib.Omega.{arith}
use lib.ListN.{length-take}
use Rattle.answer.proofs.Groups.{groups-inside}
use Rattle.read_solution.proofs.print_groups.Goals as goal

pub slice_bounds-text-end : goal.slice_bounds-text-end
slice_bounds-text-end c = omega (arith, groups-inside _ _ _ c.in-Bytes.n (sym c.in-Bytes.is ∙ c.write_groups.ensures.value), c.write_groups.auto.buf)

pub slice_bounds-write-end : goal.slice_bounds-write-end
slice_bounds-write-end c = simp length-take (omega (arith, groups-inside _ _ _ c.in-Bytes.n (sym c.in-Bytes.is ∙ c.write_groups.ensures.value), c.write_groups.auto.buf))
