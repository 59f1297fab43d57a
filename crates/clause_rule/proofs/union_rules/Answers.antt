use Rattle.std.proofs.Common.{arith}
use Rattle.clause_rule.proofs.Walks.{short-next, union-end}
use Rattle.clause_rule.proofs.union_rules.Goals as goal

pub loop-i-preserved : goal.loop-i-preserved
loop-i-preserved c = short-next c.args.w c.args.ids.now c.args.k _ c.loop-i.i _ c.loop-i.invariant c.loop-i-test.true _ c.pair_rule.ensures

pub returns : goal.returns
returns c = union-end c.args.w c.args.ids.now c.args.k _ c.loop-i.i _ c.loop-i.invariant (omega arith) _ c.long_rule.ensures
