-- `count_from` gives k of code 6, and 0 of every other. Assumes nothing.
use Rattle.model.specs.Sheet.{count_from}
use borrow.Author.Tests.{eq-eqb, ne_eqb}
use Rattle.sheet.proofs.count_from.Goals as goal

pub returns-then-code-eq6 : goal.returns-then-code-eq6
unfolding count_from
returns-then-code-eq6 c = simp (← c.requires, eq-eqb _ _ c.if-code-eq6.true) c.value.ensures

pub returns : goal.returns
unfolding count_from
returns c = simp (← c.requires, ne_eqb _ _ c.if-code-eq6.false)
