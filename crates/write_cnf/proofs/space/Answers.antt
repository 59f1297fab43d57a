-- `space` is as long as a piece. Assumes nothing.
use Prim.Native.Nat.{ℕ}
use lib.ListN.{length-replicate}
use Rattle.write_cnf.proofs.space.Goals as goal

pub returns : goal.returns
returns c = length-replicate {A = ℕ} 524288 0
