use native.Mathlib.Omega.{arith}
use Rattle.packing.specs.Packing.{constraint_words}
use Rattle.packing.proofs.Laid.{laying-next}
use Rattle.packing.proofs.lay_constraints.Invariants.{width}
use Rattle.packing.proofs.lay_constraints.Goals as goal

pub loop-i-preserved : goal.loop-i-preserved
loop-i-preserved c =
    let e = c.put_constraint.ensures in
    laying-next constraint_words width _ _ _ _ _ _ c.loop-i.invariant (omega arith) _ _ e.c_len e.words_after
