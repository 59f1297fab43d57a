-- `number_space` has a place for each number. Assumes nothing.
use Prim.Native.Nat.{ℕ}
use lib.ListN.{length-replicate}
use Rattle.certify.proofs.number_space.Goals as goal

pub returns : goal.returns
returns c = length-replicate {A = ℕ} 540672 0
