-- `groups_for` is the number of groups that a sheet of n entrants may have. Assumes nothing.
use Rattle.model.specs.Limits.{groups_for}
use native.Mathlib.Omega.{arith}
use borrow.Author.Tests.{le-leb, lt-leb}
use Rattle.model.proofs.groups_for.Goals as goal

pub returns-then-n-le-NARROW : goal.returns-then-n-le-NARROW
unfolding groups_for
returns-then-n-le-NARROW c = (rw (le-leb _ _ c.if-n-le-NARROW.true), omega arith)

pub returns : goal.returns
unfolding groups_for
returns c = (rw (lt-leb _ _ c.if-n-le-NARROW.false), omega arith)
