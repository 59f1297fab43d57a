-- `group_refusal` judges a group line. Assumes nothing.
use Rattle.model.specs.Sheet.{group_refusal}
use borrow.Author.Tests.{le-leb, lt-leb, eq-eqb, ne_eqb}
use Rattle.sheet.proofs.group_refusal.Goals as goal

pub returns-then-value-ne2 : goal.returns-then-value-ne2
unfolding group_refusal
returns-then-value-ne2 c = simp (← c.value.ensures, ne_eqb _ _ c.if-value-ne2.true)

pub returns-then-line-n : goal.returns-then-line-n
unfolding group_refusal
returns-then-line-n c = simp (← c.value.ensures, eq-eqb _ _ c.if-value-ne2.false, ne_eqb _ _ c.if-line-n.true)

pub returns-then-high-value : goal.returns-then-high-value
unfolding group_refusal
returns-then-high-value c = simp (← c.value.ensures, ← c.value-high.ensures, ← c.value-2.ensures, eq-eqb _ _ c.if-value-ne2.false, eq-eqb _ _ c.if-line-n.false, lt-leb _ _ c.if-high-value.true)

pub returns-then-n-high : goal.returns-then-n-high
unfolding group_refusal
returns-then-n-high c = simp (← c.value.ensures, ← c.value-high.ensures, ← c.value-2.ensures, eq-eqb _ _ c.if-value-ne2.false, eq-eqb _ _ c.if-line-n.false, le-leb _ _ c.if-high-value.false, lt-leb _ _ c.if-n-high.true)

pub returns-then-not-good_marks : goal.returns-then-not-good_marks
unfolding group_refusal
returns-then-not-good_marks c = simp (← c.value.ensures, ← c.value-high.ensures, ← c.value-2.ensures, eq-eqb _ _ c.if-value-ne2.false, eq-eqb _ _ c.if-line-n.false, le-leb _ _ c.if-high-value.false, le-leb _ _ c.if-n-high.false, ← c.good_marks.ensures, c.if-not-good_marks.true)

pub returns-then-value-g : goal.returns-then-value-g
unfolding group_refusal
returns-then-value-g c = simp (← c.value.ensures, ← c.value-high.ensures, ← c.value-2.ensures, ← c.value-3.ensures, eq-eqb _ _ c.if-value-ne2.false, eq-eqb _ _ c.if-line-n.false, le-leb _ _ c.if-high-value.false, le-leb _ _ c.if-n-high.false, ← c.good_marks.ensures, c.if-not-good_marks.false, ne_eqb _ _ c.if-value-g.true)

pub returns : goal.returns
unfolding group_refusal
returns c = simp (← c.value.ensures, ← c.value-high.ensures, ← c.value-2.ensures, ← c.value-3.ensures, eq-eqb _ _ c.if-value-ne2.false, eq-eqb _ _ c.if-line-n.false, le-leb _ _ c.if-high-value.false, le-leb _ _ c.if-n-high.false, ← c.good_marks.ensures, c.if-not-good_marks.false, eq-eqb _ _ c.if-value-g.false)
