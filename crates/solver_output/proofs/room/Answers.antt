-- `room` is as long as the longest line. Assumes nothing.
use Prim.Native.Nat.{ℕ}
use lib.ListN.{length-replicate}
use Rattle.solver_output.proofs.room.Goals as goal

pub returns : goal.returns
returns c = length-replicate {A = ℕ} 1048576 0
