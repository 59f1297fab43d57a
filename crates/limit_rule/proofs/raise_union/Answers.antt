use Rattle.model.specs.LimitRules.{low_at_least}
use Rattle.table.proofs.Rules.{one_rule_more}
use Rattle.limit_rule.proofs.raise_union.Goals as goal

pub loop-f-preserved : goal.loop-f-preserved
loop-f-preserved c = one_rule_more (low_at_least c.args.h) c.args.fs.now _ c.loop-f.f-index _ c.loop-f.invariant c.loop-f-test.true 0 _ c.low_at_least.ensures
