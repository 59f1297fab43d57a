-- `form_fault` names a byte order mark, a carriage return or a tab before the other fault. Assumes nothing.
use borrow.Author.Tests.{eq-eqb, ne_eqb, lt-ltb, le-ltb}
use Rattle.line_fault.specs.Fault.{form_fault}
use Rattle.line_fault.proofs.form_fault.Goals as goal

pub returns-then-has_order_mark : goal.returns-then-has_order_mark
unfolding form_fault
returns-then-has_order_mark c = rw (← c.has_order_mark.ensures, c.if-has_order_mark.true)

pub returns-then-last_byte-eq13 : goal.returns-then-last_byte-eq13
unfolding form_fault
returns-then-last_byte-eq13 c = rw (← c.has_order_mark.ensures, c.if-has_order_mark.false, ← c.last_byte.ensures, eq-eqb _ _ c.if-last_byte-eq13.true)

pub returns-then-tab-line : goal.returns-then-tab-line
unfolding form_fault
returns-then-tab-line c = rw (← c.has_order_mark.ensures, c.if-has_order_mark.false, ← c.last_byte.ensures, ne_eqb _ _ c.if-last_byte-eq13.false, ← c.first_tab-tab.ensures, lt-ltb _ _ c.if-tab-line.true)

pub returns : goal.returns
unfolding form_fault
returns c = rw (← c.has_order_mark.ensures, c.if-has_order_mark.false, ← c.last_byte.ensures, ne_eqb _ _ c.if-last_byte-eq13.false, ← c.first_tab-tab.ensures, le-ltb _ _ c.if-tab-line.false)
