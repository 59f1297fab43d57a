-- `text_space` has the text's bytes. Assumes nothing.
use Prim.Native.Nat.{ℕ}
use lib.ListN.{length-replicate}
use Rattle.certify.proofs.text_space.Goals as goal

pub returns : goal.returns
returns c = length-replicate {A = ℕ} 131072 0
