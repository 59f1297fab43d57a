-- `start` is the start of line 1. Assumes nothing.
use Rattle.model.specs.Demand.{fresh_reading}
use Rattle.lines.specs.Lines.{fresh_cut}
use Rattle.lines.proofs.start.Goals as goal

pub returns : goal.returns
unfolding fresh_cut fresh_reading
returns c = c.line_start.ensures
