-- `groups_hold` tests the first s groups. Invariant: the test of all is the test of those from i on. Assumes nothing.
use lib.ListN.{take}
use Rattle.model.specs.Close.{assignment_of}
use Rattle.solution.proofs.Groups.{Rest}
use Rattle.solution.proofs.group_clauses.groups_hold.Given as goal

abbrev pub invariant-loop-i : goal.invariant-loop-i
invariant-loop-i l = Rest (assignment_of l.values) (take l.s l.groups) l.words l.s l.i
