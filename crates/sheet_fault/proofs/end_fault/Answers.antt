-- `end_fault` tells an empty sheet from one whose last line has no newline. Assumes nothing.
use borrow.Author.Tests.{eq-eqb, ne_eqb}
use Rattle.sheet_fault.specs.Fault.{end_fault}
use Rattle.sheet_fault.proofs.end_fault.Goals as goal

pub returns-then-sheet-eq0 : goal.returns-then-sheet-eq0
unfolding end_fault
returns-then-sheet-eq0 c = rw (eq-eqb _ _ c.if-sheet-eq0.true)

pub returns : goal.returns
unfolding end_fault
returns c = rw (ne_eqb _ _ c.if-sheet-eq0.false, ← c.line_count.ensures)
