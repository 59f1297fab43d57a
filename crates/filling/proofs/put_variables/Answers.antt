-- `put_variables` writes the open entrants of a group. Assumes nothing.
use Rattle.model.specs.Cnf.{open_of}
use Rattle.filling.proofs.put_variables.Goals as goal

pub put_open-requires-clause-w_in_bounds : goal.put_open-requires-clause-w_in_bounds
unfolding open_of
put_open-requires-clause-w_in_bounds c = rw c.without.ensures c.requires.w_in_bounds

pub returns : goal.returns
unfolding open_of
returns c = rw c.without.ensures at c.put_open.ensures
