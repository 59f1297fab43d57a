-- `lower` stores where the high of a group that is there is more than v. Assumes nothing.
use Rattle.std.proofs.Common.{arith}
use Rattle.model.specs.Model.{zero_group}
use Rattle.model.specs.LimitRules.{lowered}
use Rattle.model.proofs.LimitRules.{lowered-same}
use Rattle.table.proofs.Rules.{stored, as-it-is, not-there}
use Rattle.limit_rule.proofs.Steps.{lowered_to}
use Rattle.limit_rule.proofs.lower.Goals as goal

pub returns-then-i-ge-GROUPS : goal.returns-then-i-ge-GROUPS
returns-then-i-ge-GROUPS c = not-there c.args.t.now _ c.saturating_sub-i.result (omega arith) (lowered c.args.v) (omega arith)

pub returns-then-v-t : goal.returns-then-v-t
unfolding zero_group
returns-then-v-t c = stored c.args.t.now _ _ (omega arith) (lowered c.args.v) _ (lowered_to c.args.v _ c.if-v-t.true)

pub returns-else-v-t : goal.returns-else-v-t
unfolding zero_group
returns-else-v-t c = as-it-is c.args.t.now _ c.saturating_sub-i.result (omega arith) (lowered c.args.v) (lowered-same c.args.v _ c.if-v-t.false)
