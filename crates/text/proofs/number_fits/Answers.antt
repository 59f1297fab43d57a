-- `number_fits`: a number has at most ten digits. Assumes nothing.
use native.Mathlib.Omega.{arith}
use Rattle.std.proofs.lemmas.Grind.{common_steps}
use Rattle.encoding_laws.proofs.Decimal.{decimal-bound}
use Rattle.text.proofs.number_fits.Goals as goal

pub returns-then-ends_within : goal.returns-then-ends_within
returns-then-ends_within c = grind (arith, common_steps, decimal-bound 9 c.args.v (omega arith))
