-- `next` is the number after, by its one test. Assumes nothing.
use borrow.Author.Tests.{lt-ltb, le-ltb}
use Rattle.lines.specs.Cut.{next_number}
use Rattle.lines.proofs.next.Goals as goal

pub returns-then-number-lt4294967295 : goal.returns-then-number-lt4294967295
unfolding next_number
returns-then-number-lt4294967295 c = simp (lt-ltb _ _ c.if-number-lt4294967295.true)

pub returns : goal.returns
unfolding next_number
returns c = simp (le-ltb _ _ c.if-number-lt4294967295.false)
