-- `first_clash` asks for both tables. Assumes nothing.
use Rattle.model.specs.Model.{table_of}
use Rattle.combine.specs.Clash.{clash_of}
use Rattle.combine.proofs.first_clash.Goals as goal

pub returns : goal.returns
unfolding clash_of table_of
returns c = c.clash_among.ensures
