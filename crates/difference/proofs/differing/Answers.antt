-- `differing` looks the two groups up. Assumes nothing.
use mathlib.Core.Path.{ap₂, ◌∙◌}
use lib.ListN.{take}
use Rattle.model.specs.declared.Group.{Group}
use Rattle.model.specs.Model.{member_at}
use Rattle.difference.specs.Pair.{differing_of}
use Rattle.difference.proofs.Groups.{differing-is}
use Rattle.difference.proofs.differing.Goals as goal

pub returns : goal.returns
unfolding member_at
returns c =
    c.differing_of.ensures ∙ ap₂ (λ (f g : Group). differing_of c.args.c.now f g) c.group_at-f.ensures c.group_at-g.ensures ∙ differing-is (take c.args.s c.args.groups.now) c.args.c.now
