-- `room` is as long as it is said to be. Assumes nothing.
use Prim.Native.Nat.{ℕ, ◌+◌, ◌*◌}
use lib.ListN.{length-replicate}
use Rattle.model.specs.Limits.{limits}
use Rattle.write_values.proofs.room.Goals as goal

pub returns : goal.returns
returns c = length-replicate {A = ℕ} (9 * limits.variables + 6) 0
