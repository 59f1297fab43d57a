use Rattle.model.specs.LimitRules.{high_at_most}
use Rattle.table.proofs.Rules.{one_rule_more}
use Rattle.limit_rule.proofs.lower_members.Goals as goal

pub loop-f-preserved : goal.loop-f-preserved
loop-f-preserved c = one_rule_more (λ f. high_at_most f c.args.h) c.args.fs.now _ c.loop-f.f-index _ c.loop-f.invariant c.loop-f-test.true 0 _ c.high_at_most.ensures
