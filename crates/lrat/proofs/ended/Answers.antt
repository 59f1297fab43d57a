-- `ended` meets its contract by what `number` keeps. Assumes nothing.
use Rattle.refutation.proofs.Steps.{keep-each}
use Rattle.lrat.proofs.ended.Goals as goal

pub returns-then-r-2 : goal.returns-then-r-2
returns-then-r-2 c = keep-each c.refused.ensures
