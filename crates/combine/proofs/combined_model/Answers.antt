-- `combined_model` is the combined groups and constraints. Assumes nothing.
use Rattle.combine.proofs.Entry.{model-made}
use Rattle.combine.proofs.combined_model.Goals as goal

pub returns : goal.returns
returns c =
    model-made c.args.a c.args.b _ _ c.requires.1 c.combined_groups.ensures c.combined_constraints.ensures
