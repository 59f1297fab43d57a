-- `print_answer` prints what the texts' lengths tell. Assumes nothing.
use mathlib.Core.Path.{sym, ◌∙◌}
use native.Mathlib.Omega.{arith}
use lib.ListN.{length-take}
use Rattle.answer.proofs.Values.{unsaid-le, text-inside}
use Rattle.read_answer.proofs.print_answer.Goals as goal

pub slice_bounds-line-end : goal.slice_bounds-line-end
slice_bounds-line-end c = omega (arith, text-inside _ _ _ c.in-Bytes.n (sym c.in-Bytes.is ∙ c.write_values.ensures.value), c.write_values.auto.buf)

pub slice_bounds-write-end : goal.slice_bounds-write-end
slice_bounds-write-end c = simp length-take (omega (arith, text-inside _ _ _ c.in-Bytes.n (sym c.in-Bytes.is ∙ c.write_values.ensures.value), c.write_values.auto.buf))

pub overflow_cast-unsaid : goal.overflow_cast-unsaid
overflow_cast-unsaid c =
    let read = c.read_lines-reading in
    omega (arith, c.unsaid-unsaid.ensures, unsaid-le read.new.values, read.auto.values, c.requires)
