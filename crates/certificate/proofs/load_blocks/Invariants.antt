-- `load_blocks` loads run after run: each run's text is that of clauses that a satisfying assignment makes true. Assumes nothing.
use Prim.Native.Nat.{◌+◌, ◌-◌}
use Rattle.certificate.proofs.Runs.{LoadedTo}
use Rattle.certificate.proofs.load_blocks.Given as goal

abbrev pub invariant-loop-x : goal.invariant-loop-x
invariant-loop-x l = LoadedTo l.m l.initial.q.state l.initial.text l.initial.store l.initial.index l.initial.marks l.q.state l.text l.store l.index l.marks l.x

abbrev pub decreases-loop-x : goal.decreases-loop-x
decreases-loop-x l = l.last + 1 - l.x
