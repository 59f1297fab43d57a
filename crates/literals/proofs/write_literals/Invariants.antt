-- `write_literals` writes the literals of words. Invariant: what is still to be written is what stands from place `at` on. Assumes nothing.
use Prim.Native.Nat.{◌-◌}
use Rattle.literals.proofs.Named.{Writing}
use Rattle.literals.proofs.write_literals.Given as goal

abbrev pub invariant-loop-count : goal.invariant-loop-count
invariant-loop-count l = Writing l.s l.initial.values l.values l.m l.at l.count

abbrev pub decreases-loop-count : goal.decreases-loop-count
decreases-loop-count l = l.m - l.count
