use native.Mathlib.Omega.{arith}
use Rattle.model.proofs.Numbers.{ten_le}
use Rattle.model.proofs.decimal.Goals as goal

pub overflow_mul-v : goal.overflow_mul-v
overflow_mul-v c = omega (arith, ten_le c.loop-b.b-index c.loop-b.v c.loop-b.invariant.0 (omega arith))

pub overflow_add-v : goal.overflow_add-v
overflow_add-v c = omega (arith, ten_le c.loop-b.b-index c.loop-b.v c.loop-b.invariant.0 (omega arith))
