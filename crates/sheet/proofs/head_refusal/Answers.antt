-- `head_refusal` judges the head. Assumes nothing.
use Rattle.model.specs.Sheet.{head_refusal}
use Rattle.model.proofs.Width.{over, under}
use borrow.Author.Tests.{le-leb, lt-leb, eq-eqb, ne_eqb}
use Rattle.sheet.proofs.head_refusal.Goals as goal

pub returns-then-value-ne1 : goal.returns-then-value-ne1
unfolding head_refusal
returns-then-value-ne1 c = simp (← c.value.ensures, ne_eqb _ _ c.if-value-ne1.true)

pub returns-then-line-ne4 : goal.returns-then-line-ne4
unfolding head_refusal
returns-then-line-ne4 c = simp (← c.value.ensures, eq-eqb _ _ c.if-value-ne1.false, ne_eqb _ _ c.if-line-ne4.true)

pub returns-then-n-lt1 : goal.returns-then-n-lt1
unfolding head_refusal
returns-then-n-lt1 c = simp (← c.value.ensures, ← c.value-n.ensures, eq-eqb _ _ c.if-value-ne1.false, eq-eqb _ _ c.if-line-ne4.false, lt-leb _ _ c.if-n-lt1.true)

pub returns-then-n-gt-ENTRANTS : goal.returns-then-n-gt-ENTRANTS
unfolding head_refusal
returns-then-n-gt-ENTRANTS c = simp (← c.value.ensures, ← c.value-n.ensures, eq-eqb _ _ c.if-value-ne1.false, eq-eqb _ _ c.if-line-ne4.false, le-leb _ _ c.if-n-lt1.false, lt-leb _ _ c.if-n-gt-ENTRANTS.true)

pub returns-then-s-lt1 : goal.returns-then-s-lt1
unfolding head_refusal
returns-then-s-lt1 c = simp (← c.value.ensures, ← c.value-n.ensures, ← c.value-s.ensures, eq-eqb _ _ c.if-value-ne1.false, eq-eqb _ _ c.if-line-ne4.false, le-leb _ _ c.if-n-lt1.false, le-leb _ _ c.if-n-gt-ENTRANTS.false, lt-leb _ _ c.if-s-lt1.true)

pub returns-then-groups_for-s : goal.returns-then-groups_for-s
unfolding head_refusal
returns-then-groups_for-s c = simp (← c.value.ensures, ← c.value-n.ensures, ← c.value-s.ensures, eq-eqb _ _ c.if-value-ne1.false, eq-eqb _ _ c.if-line-ne4.false, le-leb _ _ c.if-n-lt1.false, le-leb _ _ c.if-n-gt-ENTRANTS.false, le-leb _ _ c.if-s-lt1.false, over c.if-groups_for-s.true c.groups_for.ensures.0)

pub returns-then-value-gt-CONSTRAINTS : goal.returns-then-value-gt-CONSTRAINTS
unfolding head_refusal
returns-then-value-gt-CONSTRAINTS c = simp (← c.value.ensures, ← c.value-n.ensures, ← c.value-s.ensures, ← c.value-2.ensures, eq-eqb _ _ c.if-value-ne1.false, eq-eqb _ _ c.if-line-ne4.false, le-leb _ _ c.if-n-lt1.false, le-leb _ _ c.if-n-gt-ENTRANTS.false, le-leb _ _ c.if-s-lt1.false, under c.if-groups_for-s.false c.groups_for.ensures.0, lt-leb _ _ c.if-value-gt-CONSTRAINTS.true)

pub returns : goal.returns
unfolding head_refusal
returns c = simp (← c.value.ensures, ← c.value-n.ensures, ← c.value-s.ensures, ← c.value-2.ensures, eq-eqb _ _ c.if-value-ne1.false, eq-eqb _ _ c.if-line-ne4.false, le-leb _ _ c.if-n-lt1.false, le-leb _ _ c.if-n-gt-ENTRANTS.false, le-leb _ _ c.if-s-lt1.false, under c.if-groups_for-s.false c.groups_for.ensures.0, le-leb _ _ c.if-value-gt-CONSTRAINTS.false)
