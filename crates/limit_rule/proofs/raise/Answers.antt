-- `raise` stores where the low of a group that is there is less than v. Assumes nothing.
use Rattle.std.proofs.Common.{arith}
use Rattle.model.specs.Model.{zero_group}
use Rattle.model.specs.LimitRules.{raised}
use Rattle.model.proofs.LimitRules.{raised-same}
use Rattle.table.proofs.Rules.{stored, as-it-is, not-there}
use Rattle.limit_rule.proofs.Steps.{raised_to}
use Rattle.limit_rule.proofs.raise.Goals as goal

pub returns-then-i-ge-GROUPS : goal.returns-then-i-ge-GROUPS
returns-then-i-ge-GROUPS c = not-there c.args.t.now _ c.saturating_sub-i.result (omega arith) (raised c.args.v) (omega arith)

pub returns-then-t-i : goal.returns-then-t-i
unfolding zero_group
returns-then-t-i c = stored c.args.t.now _ _ (omega arith) (raised c.args.v) _ (raised_to c.args.v _ c.if-t-i.true)

pub returns-else-t-i : goal.returns-else-t-i
unfolding zero_group
returns-else-t-i c = as-it-is c.args.t.now _ c.saturating_sub-i.result (omega arith) (raised c.args.v) (raised-same c.args.v _ c.if-t-i.false)
