use Rattle.clause_rule.proofs.Walks.{false-more}
use Rattle.clause_rule.proofs.literal_rule.Goals as goal

pub loop-x-preserved : goal.loop-x-preserved
loop-x-preserved c = false-more c.args.t.now c.args.ids.now c.args.w c.args.others.now c.loop-x.x-index _ _ _ c.loop-x-test.true c.loop-x.invariant c.literal_false-v.ensures
