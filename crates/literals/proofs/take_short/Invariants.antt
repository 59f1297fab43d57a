-- `take_short` judges and writes words in order. Invariant: what was written can be put back, and the rest is still to be judged. Assumes nothing.
use Prim.Native.Nat.{◌-◌}
use Rattle.literals.proofs.Taken.{Taking}
use Rattle.literals.proofs.take_short.Given as goal

abbrev pub invariant-loop-count : goal.invariant-loop-count
invariant-loop-count l = Taking l.s l.initial.values l.values l.places l.bytes l.m l.at l.count

abbrev pub decreases-loop-count : goal.decreases-loop-count
decreases-loop-count l = l.m - l.count
