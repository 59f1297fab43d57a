-- `code_in_range` is the test of a code and its count. Assumes nothing.
use Rattle.model.specs.Model.{code_in_range}
use borrow.Author.Tests.{le-leb, lt-leb, ne_eqb}
use Rattle.range.proofs.code_in_range.Goals as goal

pub returns-then-code-lt1 : goal.returns-then-code-lt1
unfolding code_in_range
returns-then-code-lt1 c = simp (lt-leb _ _ c.if-code-lt1.true)

pub returns-then-code-gt7 : goal.returns-then-code-gt7
unfolding code_in_range
returns-then-code-gt7 c = simp (le-leb _ _ c.if-code-lt1.false, lt-leb _ _ c.if-code-gt7.true)

pub returns-then-code-ne6 : goal.returns-then-code-ne6
unfolding code_in_range
returns-then-code-ne6 c = simp (le-leb _ _ c.if-code-lt1.false, le-leb _ _ c.if-code-gt7.false, ne_eqb _ _ c.if-code-ne6.true)

pub returns-then-count-lt2 : goal.returns-then-count-lt2
unfolding code_in_range
returns-then-count-lt2 c = simp (c.if-code-ne6.false, lt-leb _ _ c.if-count-lt2.true)

pub returns : goal.returns
unfolding code_in_range
returns c = simp (c.if-code-ne6.false, le-leb _ _ c.if-count-lt2.false)
