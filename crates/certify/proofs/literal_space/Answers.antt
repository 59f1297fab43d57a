-- `literal_space` has a word for each literal. Assumes nothing.
use Prim.Native.Nat.{ℕ, ◌+◌, ◌*◌}
use lib.ListN.{length-replicate}
use Rattle.model.specs.Limits.{limits}
use Rattle.certify.proofs.literal_space.Goals as goal

pub returns : goal.returns
returns c = length-replicate {A = ℕ} (2 * limits.variables + 2) 0
