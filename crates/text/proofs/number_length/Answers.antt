use native.Mathlib.Omega.{arith}
use Rattle.encoding_laws.proofs.Decimal.{decimal-one, decimal-length, decimal-bound}
use Rattle.text.proofs.number_length.Goals as goal

pub overflow_add-k : goal.overflow_add-k
overflow_add-k c = omega (arith, c.loop-x.invariant, decimal-bound 9 c.args.v (omega arith))

pub loop-x-preserved : goal.loop-x-preserved
loop-x-preserved c = omega (arith, c.loop-x.invariant, decimal-length c.loop-x.x c.loop-x-test.true)

pub returns : goal.returns
returns c =
    let one = decimal-one c.loop-x.x (omega arith) in
    record { value = omega (arith, c.loop-x.invariant, one); upper_bound = omega (arith, c.loop-x.invariant, one, decimal-bound 9 c.args.v (omega arith)) }
