use native.Mathlib.Omega.{arith}
use Rattle.answering.proofs.Lines.{at-start, line-end, line-size, goes, all_read}
use Rattle.answering.proofs.read_lines.Goals as goal

pub loop-at-init : goal.loop-at-init
loop-at-init c = at-start _ _

pub slice_bounds-read_line-end : goal.slice_bounds-read_line-end
slice_bounds-read_line-end c = line-size c.loop-at.invariant c.loop-at-test.true _ c.line_length-len.ensures

pub overflow_add-at : goal.overflow_add-at
overflow_add-at c = omega (arith, line-end c.loop-at.invariant c.loop-at-test.true _ c.line_length-len.ensures)

pub overflow_add-at-in-loop-at : goal.overflow_add-at-in-loop-at
overflow_add-at-in-loop-at c = omega (arith, line-end c.loop-at.invariant c.loop-at-test.true _ c.line_length-len.ensures)

pub loop-at-preserved : goal.loop-at-preserved
loop-at-preserved c =
    let read = c.read_line.ensures in
    goes c.loop-at.invariant c.loop-at-test.true _ c.line_length-len.ensures _ read.value _ read.values_after (omega arith)

pub returns : goal.returns
returns c =
    let both = all_read c.loop-at.invariant c.loop-at-test.false in
    record { value = both.0; values_after = both.1 }
