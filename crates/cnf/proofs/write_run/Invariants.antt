-- `write_run` writes block after block while each fits. Invariant: the run is under way, or block x does not fit. Assumes nothing.
use Prim.Native.Nat.{◌-◌}
use Rattle.cnf.proofs.Runs.{Stopped}
use Rattle.cnf.proofs.write_run.Given as goal

abbrev pub invariant-loop-x : goal.invariant-loop-x
invariant-loop-x l = Stopped l.m l.b l.end l.initial.buf l.stop l.x l.at l.buf

abbrev pub decreases-loop-x : goal.decreases-loop-x
decreases-loop-x l = l.stop - l.x
