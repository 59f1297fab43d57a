use Rattle.rules.proofs.Rules.{group_more}
use Rattle.rules.proofs.group_rules.Goals as goal

pub loop-i-preserved : goal.loop-i-preserved
loop-i-preserved c = group_more c.loop-i.i _ _ _ c.loop-i.invariant c.group_rule_at.ensures
