-- `count_from` gives k, or 0. Assumes nothing.
use borrow.Author.Tests.{eq-eqb, ne_eqb}
use Rattle.model.specs.Sheet.{count_from}
use Rattle.line_fault.proofs.count_from.Goals as goal

pub returns-then-code-eq6 : goal.returns-then-code-eq6
unfolding count_from
returns-then-code-eq6 c = rw (← c.requires, eq-eqb _ _ c.if-code-eq6.true) c.value.ensures

pub returns : goal.returns
unfolding count_from
returns c = rw (← c.requires, ne_eqb _ _ c.if-code-eq6.false)
