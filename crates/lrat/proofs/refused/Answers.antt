-- `refused` meets its contract: a refusal changes no clause. Assumes nothing.
use Rattle.refutation.proofs.Steps.{hold_same}
use Rattle.lrat.proofs.refused.Goals as goal

pub returns : goal.returns
returns c = λ a store index marks h. hold_same c.after.ensures a store index marks (c.refuse.ensures.holds a store index marks h)
