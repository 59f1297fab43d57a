-- `store_space` has the store's places. Assumes nothing.
use Prim.Native.Nat.{ℕ}
use lib.ListN.{length-replicate}
use Rattle.certify.proofs.store_space.Goals as goal

pub returns : goal.returns
returns c = length-replicate {A = ℕ} 1048576 0
