-- `find` goes by the refusal. Assumes nothing.
use borrow.Author.Tests.{lt-ltb, le-ltb, eq-eqb, ne_eqb}
use Rattle.sheet_fault.specs.Fault.{lines_fault, sheet_fault}
use Rattle.sheet_fault.proofs.find.Goals as goal

pub returns-then-sheet-gt-SHEET_BYTES : goal.returns-then-sheet-gt-SHEET_BYTES
unfolding sheet_fault
returns-then-sheet-gt-SHEET_BYTES c = rw (lt-ltb _ _ c.if-sheet-gt-SHEET_BYTES.true)

pub returns-then-refusal-eq2 : goal.returns-then-refusal-eq2
unfolding sheet_fault
returns-then-refusal-eq2 c = rw (le-ltb _ _ c.if-sheet-gt-SHEET_BYTES.false, eq-eqb _ _ c.if-refusal-eq2.true) c.end_fault.ensures

pub returns-then-is_of_lines : goal.returns-then-is_of_lines
unfolding sheet_fault lines_fault
returns-then-is_of_lines c = rw (le-ltb _ _ c.if-sheet-gt-SHEET_BYTES.false, ne_eqb _ _ c.if-refusal-eq2.false, ← c.line_at.ensures, ← c.head_of-h.ensures.0, ← c.is_of_lines.ensures, c.if-is_of_lines.true, ← c.saturating_sub-done.ensures, ← c.kind_due.ensures, ← c.line_count.ensures)

pub returns : goal.returns
unfolding sheet_fault
returns c = rw (le-ltb _ _ c.if-sheet-gt-SHEET_BYTES.false, ne_eqb _ _ c.if-refusal-eq2.false, ← c.line_at.ensures, ← c.head_of-h.ensures.0, ← c.is_of_lines.ensures, c.if-is_of_lines.false, ← c.saturating_sub-done.ensures, ← c.line_at-2.ensures) c.find.ensures
