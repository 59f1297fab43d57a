-- What the code knows of a model's arrays: the promise of `whole`, said of the model. Assumes nothing.
use mathlib.Core.Path.{◌≡◌}
use lib.Dec.{T}
use lib.ListN.{length}
use Rattle.model.specs.declared.Model.{Model}
use Rattle.std.specs.List.{list_all}
use Rattle.model.specs.Limits.{limits}
use Rattle.model.specs.Model.{constraint_sized, Whole}

pub whole_of : (m : Model)
    → (length m.groups ≡ limits.groups) × (length m.constraints ≡ limits.constraints) × T (list_all constraint_sized m.constraints) → Whole m
whole_of m l = record { groups = l.0; constraints = l.1; members = l.2 }
