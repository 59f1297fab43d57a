-- `scan` finds what a clause says: every word passed is marked, but for one. Assumes nothing.
use Rattle.refutation.proofs.Marks.{AllPassed}
use Rattle.refutation.proofs.scan.Given as goal

abbrev pub invariant-loop-i : goal.invariant-loop-i
invariant-loop-i l = AllPassed l.store l.marks l.stamp l.unit l.b l.i
