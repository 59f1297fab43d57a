-- `at_start` tests that no byte is kept, and none was passed over. Assumes nothing.
use borrow.Author.Tests.{eq-eqb, ne_eqb}
use Rattle.lines.specs.Cut.{at_start}
use Rattle.lines.proofs.at_start.Goals as goal

pub returns-then-cut-ne0 : goal.returns-then-cut-ne0
unfolding at_start
returns-then-cut-ne0 c = rw (ne_eqb _ _ c.if-cut-ne0.true)

pub returns : goal.returns
unfolding at_start
returns c = rw (eq-eqb _ _ c.if-cut-ne0.false)
