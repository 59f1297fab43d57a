-- `kind_due` goes by the number of lines. Assumes nothing.
use borrow.Author.Tests.{le-leb, lt-leb}
use Rattle.sheet_fault.specs.Fault.{kind_due}
use Rattle.sheet_fault.proofs.kind_due.Goals as goal

pub returns-then-done-h : goal.returns-then-done-h
unfolding kind_due
returns-then-done-h c = rw (le-leb _ _ c.if-done-h.true)

pub returns-then-done-h-2 : goal.returns-then-done-h-2
unfolding kind_due
returns-then-done-h-2 c = rw (lt-leb _ _ c.if-done-h.false, le-leb _ _ c.if-done-h-2.true)

pub returns : goal.returns
unfolding kind_due
returns c = rw (lt-leb _ _ c.if-done-h.false, lt-leb _ _ c.if-done-h-2.false)
