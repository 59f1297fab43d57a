-- `with_values` lends as many values as there are variables. Assumes nothing.
use native.Mathlib.Omega.{arith}
use lib.ListN.{length-take}
use Rattle.read_answer.proofs.with_values.Goals as goal

pub slice_bounds-print_answer-end : goal.slice_bounds-print_answer-end
slice_bounds-print_answer-end c = simp length-take (omega (arith, c.large_buffer-values.ensures))

pub print_answer-requires : goal.print_answer-requires
print_answer-requires c = simp length-take (omega arith)
