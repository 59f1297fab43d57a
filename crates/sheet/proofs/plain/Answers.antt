-- `plain` reads the four bytes of a field. Assumes nothing.
use native.Mathlib.Omega.{arith}
use Rattle.sheet.proofs.Fields.{field-bytes}
use Rattle.sheet.proofs.plain.Goals as goal

pub returns : goal.returns
returns c = rw (field-bytes c.args.line.now c.args.i c.requires) (omega arith)
