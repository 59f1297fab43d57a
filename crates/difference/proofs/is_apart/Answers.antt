-- `is_apart` looks the two groups up. Assumes nothing.
use mathlib.Core.Path.{ap₂, ◌∙◌}
use lib.ListN.{take}
use Rattle.model.specs.declared.Group.{Group}
use Rattle.model.specs.Model.{member_at}
use Rattle.difference.specs.Pair.{apart_of}
use Rattle.difference.proofs.Groups.{apart-is}
use Rattle.difference.proofs.is_apart.Goals as goal

pub returns : goal.returns
unfolding member_at
returns c =
    c.apart_of.ensures ∙ ap₂ (λ (f g : Group). apart_of c.args.c.now f g) c.group_at-f.ensures c.group_at-g.ensures ∙ apart-is (take c.args.s c.args.groups.now) c.args.c.now
