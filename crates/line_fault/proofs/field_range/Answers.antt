-- `field_range` goes by the kind of line. Assumes nothing.
use borrow.Author.Tests.{eq-eqb, ne_eqb, le-leb, lt-leb}
use Rattle.line_fault.specs.Fault.{field_range}
use Rattle.line_fault.proofs.field_range.Goals as goal

pub returns-then-done-eq0 : goal.returns-then-done-eq0
unfolding field_range
returns-then-done-eq0 c = rw (eq-eqb _ _ c.if-done-eq0.true) c.head_range.ensures

pub returns-then-done-h : goal.returns-then-done-h
unfolding field_range
returns-then-done-h c = rw (ne_eqb _ _ c.if-done-eq0.false, le-leb _ _ c.if-done-h.true) c.group_range.ensures

pub returns : goal.returns
unfolding field_range
returns c = rw (ne_eqb _ _ c.if-done-eq0.false, lt-leb _ _ c.if-done-h.false) c.bounds.ensures
