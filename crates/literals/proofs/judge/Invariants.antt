-- `words_refusal` judges words in order. Invariant: what was looked at is noted, and judging all is judging the rest. Assumes nothing.
use Prim.Native.Nat.{◌-◌}
use Rattle.literals.proofs.Judged.{Looking}
use Rattle.literals.proofs.judge.Given as goal

abbrev pub invariant-loop-count : goal.invariant-loop-count
invariant-loop-count l = Looking l.s l.values l.flags l.m l.at l.count

abbrev pub decreases-loop-count : goal.decreases-loop-count
decreases-loop-count l = l.m - l.count
