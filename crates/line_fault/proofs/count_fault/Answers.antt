-- `count_fault` goes by the kind of line. Assumes nothing.
use borrow.Author.Tests.{eq-eqb, ne_eqb, le-leb, lt-leb}
use Rattle.line_fault.specs.Fault.{count_fault}
use Rattle.line_fault.proofs.count_fault.Goals as goal

pub returns-then-done-eq0 : goal.returns-then-done-eq0
unfolding count_fault
returns-then-done-eq0 c = rw (eq-eqb _ _ c.if-done-eq0.true)

pub returns-then-done-h : goal.returns-then-done-h
unfolding count_fault
returns-then-done-h c = rw (ne_eqb _ _ c.if-done-eq0.false, le-leb _ _ c.if-done-h.true)

pub returns : goal.returns
unfolding count_fault
returns c = rw (ne_eqb _ _ c.if-done-eq0.false, lt-leb _ _ c.if-done-h.false) c.constraint_count.ensures
