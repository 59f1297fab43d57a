-- `next_line` goes past the line's end. Assumes nothing.
use native.Mathlib.Omega.{arith}
use Rattle.sheet_fault.proofs.Lines.{line-end}
use Rattle.sheet_fault.proofs.next_line.Goals as goal

pub overflow_add-end : goal.overflow_add-end
overflow_add-end c = omega (arith, line-end c.args.sheet.now c.args.at c.requires c.line_length.result c.line_length.ensures)
