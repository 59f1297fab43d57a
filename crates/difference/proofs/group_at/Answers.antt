-- `group_at` is a group of the first s. Assumes nothing.
use mathlib.Core.Path.{◌∙◌}
use native.Mathlib.Omega.{arith}
use Rattle.model.specs.Model.{zero_group}
use Rattle.difference.proofs.Groups.{member_is}
use Rattle.difference.proofs.group_at.Goals as goal

pub returns : goal.returns
unfolding zero_group
returns c = c.member.ensures ∙ member_is c.args.groups.now c.args.s c.args.g _ (omega arith) c.slot.ensures.value
