-- `form` gives both clauses as printed. Assumes nothing.
use Rattle.cnf.proofs.Nodes.{formed_by_one}
use Rattle.model.specs.Totalizer.{up}
use Rattle.cnf.proofs.totalizer.form.Goals as goal

pub returns : goal.returns
unfolding up
returns c = formed_by_one c.args.p c.args.q
