-- `group_count` gives the number of groups that a constraint line names. Assumes nothing.
use mathlib.Core.Path.{◌∙◌, ap₂}
use Rattle.model.specs.Clauses.{member_count}
use Rattle.model.specs.Sheet.{group_count}
use Rattle.sheet.proofs.group_count.Goals as goal

pub returns : goal.returns
unfolding group_count
returns c = c.member_count.ensures ∙ ap₂ member_count c.requires c.count_from.ensures
