-- `print_assignment` writes the text that it was given. Assumes nothing.
use mathlib.Core.Path.{sym, ◌∙◌}
use native.Mathlib.Omega.{arith}
use lib.ListN.{length-take}
use Rattle.answer.proofs.Values.{text-inside}
use Rattle.write_values.proofs.print_assignment.Goals as goal

pub slice_bounds-text-end : goal.slice_bounds-text-end
slice_bounds-text-end c = omega (arith, text-inside _ _ _ c.in-Bytes.n (sym c.in-Bytes.is ∙ c.write_assignment.ensures.value), c.write_assignment.auto.buf)

pub slice_bounds-write-end : goal.slice_bounds-write-end
slice_bounds-write-end c = simp length-take (omega (arith, text-inside _ _ _ c.in-Bytes.n (sym c.in-Bytes.is ∙ c.write_assignment.ensures.value), c.write_assignment.auto.buf))
