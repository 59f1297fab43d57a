-- `difference_count` is how many entrants of a constraint have a variable X. Assumes nothing.
use mathlib.Core.Path.{sym, ap, ◌∙◌}
use lib.Count.{ones-le}
use lib.ListN.{take}
use native.Mathlib.Omega.{arith}
use Rattle.model.specs.Limits.{limits}
use Rattle.model.specs.Words.{size}
use Rattle.model.specs.Model.{member_at}
use Rattle.model.specs.Cnf.{difference_count}
use Rattle.model.proofs.Words.{size-ones}
use Rattle.difference.proofs.Groups.{differing-is}
use Rattle.numbering.proofs.difference_count.Goals as goal

pub returns : goal.returns
unfolding difference_count member_at
returns c = (
  sym (size-ones _) ∙ ap size (c.differing_of.ensures ∙ rw (c.group_at-f.ensures, c.group_at-g.ensures) (differing-is (take c.args.s c.args.groups.now) c.args.c.now)),
  ones-le limits.word _ (omega arith),
)
