-- `short_number`: a number of 32 bits. Assumes nothing.
use native.Mathlib.Omega.{arith}
use Rattle.encoding_laws.proofs.Decimal.{decimal-bound}
use Rattle.text.proofs.short_number.Goals as goal

pub returns : goal.returns
returns c = decimal-bound 9 c.args.v (omega arith)
