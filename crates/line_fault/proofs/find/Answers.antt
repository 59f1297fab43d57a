-- `find` goes by the refusal. Assumes nothing.
use borrow.Author.Tests.{lt-ltb, le-ltb, ne_eqb}
use Rattle.line_fault.specs.Fault.{kind_fault, next_fault, line_fault}
use Rattle.line_fault.proofs.find.Goals as goal

pub returns-then-line-gt-SHEET_BYTES : goal.returns-then-line-gt-SHEET_BYTES
unfolding line_fault
returns-then-line-gt-SHEET_BYTES c = rw (lt-ltb _ _ c.if-line-gt-SHEET_BYTES.true)

pub returns-in-3 : goal.returns-in-3
unfolding line_fault
returns-in-3 c = rw (le-ltb _ _ c.if-line-gt-SHEET_BYTES.false, c.in-3.is) c.form_fault.ensures

pub returns-in-4 : goal.returns-in-4
unfolding line_fault
returns-in-4 c = rw (le-ltb _ _ c.if-line-gt-SHEET_BYTES.false, c.in-4.is, ← c.unread_fault.ensures) c.form_fault-in-4.ensures

pub returns-in-5 : goal.returns-in-5
unfolding line_fault kind_fault
returns-in-5 c = rw (le-ltb _ _ c.if-line-gt-SHEET_BYTES.false, c.in-5.is, ← c.bounds.ensures) c.number_fault.ensures

pub returns-in-6 : goal.returns-in-6
unfolding line_fault
returns-in-6 c = rw (le-ltb _ _ c.if-line-gt-SHEET_BYTES.false, c.in-6.is) c.count_fault.ensures

pub returns-in-7 : goal.returns-in-7
unfolding line_fault
returns-in-7 c = rw (le-ltb _ _ c.if-line-gt-SHEET_BYTES.false, c.in-7.is) c.out_fault.ensures

pub returns-in-8 : goal.returns-in-8
unfolding line_fault next_fault
returns-in-8 c = rw (le-ltb _ _ c.if-line-gt-SHEET_BYTES.false, c.in-8.is, ← c.bounds-in-8.ensures) c.number_fault-in-8.ensures

pub returns-in_default : goal.returns-in_default
unfolding line_fault
returns-in_default c = let r = c.in_default.in_default-own.rest in rw (le-ltb _ _ c.if-line-gt-SHEET_BYTES.false, ne_eqb _ _ r.0.0.0.0.0.1, ne_eqb _ _ r.0.0.0.0.1, ne_eqb _ _ r.0.0.0.1, ne_eqb _ _ r.0.0.1, ne_eqb _ _ r.0.1, ne_eqb _ _ r.1)
