-- `distinct` tests all numbers. Invariant: the test of all is the test of those from i on. Assumes nothing.
use mathlib.Core.Path.{◌≡◌}
use lib.ListN.{drop}
use Rattle.model.specs.Lists.{distinct}
use Rattle.range.proofs.distinct.Given as goal

abbrev pub invariant-loop-i : goal.invariant-loop-i
invariant-loop-i l = distinct l.ids ≡ distinct (drop l.i l.ids)
