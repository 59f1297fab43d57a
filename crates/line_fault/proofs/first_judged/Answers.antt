-- `first_judged` goes by the kind of line. Assumes nothing.
use borrow.Author.Tests.{eq-eqb, ne_eqb, le-leb, lt-leb}
use Rattle.model.specs.Sheet.{first_group}
use Rattle.line_fault.specs.Fault.{first_judged}
use Rattle.line_fault.proofs.first_judged.Goals as goal

pub returns-then-done-eq0 : goal.returns-then-done-eq0
unfolding first_judged
returns-then-done-eq0 c = rw (eq-eqb _ _ c.if-done-eq0.true)

pub returns-then-done-h : goal.returns-then-done-h
unfolding first_judged
returns-then-done-h c = rw (ne_eqb _ _ c.if-done-eq0.false, le-leb _ _ c.if-done-h.true)

pub returns : goal.returns
unfolding first_judged first_group
returns c = rw (ne_eqb _ _ c.if-done-eq0.false, lt-leb _ _ c.if-done-h.false, ← c.value.ensures) c.first_group.ensures
