-- `columns_of` numbers a field's columns. Assumes nothing.
use mathlib.Core.Path.{refl}
use Rattle.line_fault.specs.Fault.{columns}
use Rattle.line_fault.proofs.columns_of.Goals as goal

pub returns : goal.returns
unfolding columns
returns c = refl
