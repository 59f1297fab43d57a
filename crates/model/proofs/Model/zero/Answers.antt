-- `Model::zero` gives the all-zero model. Assumes nothing.
use Rattle.model.specs.Model.{zero_group, zero_constraint, zero_model}
use mathlib.Core.Path.{refl}
use Rattle.model.proofs.Model.zero.Goals as goal

pub returns : goal.returns
unfolding zero_group zero_constraint zero_model
returns c = refl
