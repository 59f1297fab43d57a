-- `read_constraint` gives the constraint of a constraint line. Assumes nothing.
use Rattle.model.specs.Sheet.{constraint_from}
use Rattle.sheet.proofs.read_constraint.Goals as goal

pub returns : goal.returns
unfolding constraint_from
returns c = simp (c.value-code.ensures, c.count_from.ensures, c.read_numbers-groups.ensures)
