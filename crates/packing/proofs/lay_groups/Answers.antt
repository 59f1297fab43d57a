use mathlib.Core.Path.{refl}
use native.Mathlib.Omega.{arith}
use Rattle.packing.specs.Packing.{group_words}
use Rattle.packing.proofs.Laid.{laying-next}
use Rattle.packing.proofs.lay_groups.Goals as goal

pub loop-i-preserved : goal.loop-i-preserved
loop-i-preserved c = laying-next group_words 4 _ _ _ _ _ _ c.loop-i.invariant (omega arith) _ _ refl c.put_group.ensures
