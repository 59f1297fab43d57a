-- `literal` meets its contract by what `put` keeps. Assumes nothing.
use Rattle.refutation.proofs.Steps.{keep-each}
use Rattle.lrat.proofs.literal.Goals as goal

pub returns-then-v-eq0 : goal.returns-then-v-eq0
returns-then-v-eq0 c = keep-each c.refused.ensures
