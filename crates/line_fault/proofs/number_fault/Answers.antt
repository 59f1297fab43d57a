-- `number_fault` names a field and its range. Assumes nothing.
use Rattle.line_fault.specs.Fault.{number_fault}
use Rattle.line_fault.proofs.number_fault.Goals as goal

pub returns : goal.returns
unfolding number_fault
returns c = rw (← c.columns_of.ensures, ← c.number_at.ensures)
