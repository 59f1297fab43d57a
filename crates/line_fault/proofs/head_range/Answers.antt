-- `head_range` goes by the field. Assumes nothing.
use borrow.Author.Tests.{eq-eqb, ne_eqb, le-leb, lt-leb}
use Rattle.line_fault.specs.Fault.{head_range}
use Rattle.line_fault.proofs.head_range.Goals as goal

pub returns-then-i-eq1 : goal.returns-then-i-eq1
unfolding head_range
returns-then-i-eq1 c = rw (eq-eqb _ _ c.if-i-eq1.true) c.bounds.ensures

pub returns-then-i-ne2 : goal.returns-then-i-ne2
unfolding head_range
returns-then-i-ne2 c = rw (ne_eqb _ _ c.if-i-eq1.false, ne_eqb _ _ c.if-i-ne2.true) c.bounds-then-i-ne2.ensures

pub returns-then-n-le-NARROW : goal.returns-then-n-le-NARROW
unfolding head_range
returns-then-n-le-NARROW c = rw (ne_eqb _ _ c.if-i-eq1.false, eq-eqb _ _ c.if-i-ne2.false, ← c.value-n.ensures, le-leb _ _ c.if-n-le-NARROW.true, ← c.groups_for-most.ensures.0) c.bounds-then-n-le-NARROW.ensures

pub returns : goal.returns
unfolding head_range
returns c = rw (ne_eqb _ _ c.if-i-eq1.false, eq-eqb _ _ c.if-i-ne2.false, ← c.value-n.ensures, lt-leb _ _ c.if-n-le-NARROW.false, ← c.groups_for-most.ensures.0) c.bounds-2.ensures
