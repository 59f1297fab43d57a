use Rattle.std.proofs.Common.{◌+◌, arith}
use Rattle.clause_rule.proofs.Walks.{few-next, few-none}
use Rattle.clause_rule.proofs.few.Goals as goal

pub returns-then-none-one-eq0 : goal.returns-then-none-one-eq0
returns-then-none-one-eq0 c =
    few-none c.args.t.now c.args.ids.now c.args.w _ _ (c.loop-i.i + 1)
    (few-next c.args.t.now c.args.ids.now c.args.w _ _ c.loop-i.i c.loop-i.invariant _ _ _ (rw c.member-p.ensures) c.without.ensures c.without-none.ensures) c.args.k (omega arith) c.if-none-one-eq0.true

pub loop-i-preserved : goal.loop-i-preserved
loop-i-preserved c =
    few-next c.args.t.now c.args.ids.now c.args.w _ _ c.loop-i.i c.loop-i.invariant _ _ _ (rw c.member-p.ensures) c.without.ensures c.without-none.ensures
