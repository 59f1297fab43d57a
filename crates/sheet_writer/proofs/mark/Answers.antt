-- `mark` asks the two sets for bit e, the fixed ones first. Assumes nothing.
use borrow.Author.Tests.{eq-eqb, ne_eqb}
use Rattle.model.specs.Words.{bit, has}
use Rattle.model.specs.SheetText.{mark_of}
use Rattle.sheet_writer.proofs.mark.Goals as goal

pub returns-then-g-e-eq1 : goal.returns-then-g-e-eq1
unfolding mark_of has bit
returns-then-g-e-eq1 c = rw (eq-eqb _ _ c.if-g-e-eq1.true)

pub returns-then-g-e-eq1-2 : goal.returns-then-g-e-eq1-2
unfolding mark_of has bit
returns-then-g-e-eq1-2 c = rw (ne_eqb _ _ c.if-g-e-eq1.false, eq-eqb _ _ c.if-g-e-eq1-2.true)

pub returns : goal.returns
unfolding mark_of has bit
returns c = rw (ne_eqb _ _ c.if-g-e-eq1.false, ne_eqb _ _ c.if-g-e-eq1-2.false)
