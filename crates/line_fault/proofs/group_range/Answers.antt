-- `group_range` goes by the field. Assumes nothing.
use borrow.Author.Tests.{eq-eqb, ne_eqb}
use Rattle.line_fault.specs.Fault.{group_range}
use Rattle.line_fault.proofs.group_range.Goals as goal

pub returns-then-i-eq2 : goal.returns-then-i-eq2
unfolding group_range
returns-then-i-eq2 c = rw (eq-eqb _ _ c.if-i-eq2.true, ← c.value.ensures, ← c.min.ensures) c.bounds.ensures

pub returns-then-i-eq3 : goal.returns-then-i-eq3
unfolding group_range
returns-then-i-eq3 c = rw (ne_eqb _ _ c.if-i-eq2.false, eq-eqb _ _ c.if-i-eq3.true) c.bounds-then-i-eq3.ensures

pub returns : goal.returns
unfolding group_range
returns c = rw (ne_eqb _ _ c.if-i-eq2.false, ne_eqb _ _ c.if-i-eq3.false) c.bounds-2.ensures
