-- `group_rule_at` stores at the place of the group, where there is one. Assumes nothing.
use Rattle.std.proofs.Common.{◌+◌, arith}
use Rattle.model.specs.Model.{zero_group}
use Rattle.model.specs.Propagate.{group_rule, group_rule_at}
use Rattle.table.proofs.Rules.{stored, not-there}
use Rattle.rules.proofs.group_rule_at.Goals as goal

pub returns-then-i-lt-GROUPS : goal.returns-then-i-lt-GROUPS
unfolding group_rule_at zero_group
returns-then-i-lt-GROUPS c = stored c.args.t.now (c.args.i + 1) c.args.i (omega arith) group_rule _ c.applied.ensures

pub returns-else-i-lt-GROUPS : goal.returns-else-i-lt-GROUPS
unfolding group_rule_at
returns-else-i-lt-GROUPS c = not-there c.args.t.now (c.args.i + 1) c.args.i (omega arith) group_rule (omega arith)
