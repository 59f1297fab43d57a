use Rattle.std.proofs.Common.{arith}
use Rattle.clause_rule.proofs.Walks.{long-start, long-idle, long-next, long-end}
use Rattle.clause_rule.proofs.long_rule.Goals as goal

pub returns-then-f-eq0 : goal.returns-then-f-eq0
returns-then-f-eq0 c = long-idle c.args.w c.args.ids.now c.args.k c.args.t.now _ _ c.few-f.ensures c.if-f-eq0.true

pub loop-i-init : goal.loop-i-init
loop-i-init c = long-start c.args.w c.args.ids.now c.args.k c.args.t.now

pub loop-i-preserved : goal.loop-i-preserved
loop-i-preserved c =
    long-next c.args.w c.args.ids.now c.args.k c.args.t.now c.loop-i.i c.loop-i.t c.loop-i.invariant c.loop-i-test.true _ _ c.few-f.ensures
    _ _ (rw c.member.ensures) (rw c.member-h.ensures) _ c.fix.ensures

pub returns : goal.returns
returns c =
    long-end c.args.w c.args.ids.now c.args.k c.args.t.now c.loop-i.i c.loop-i.t c.loop-i.invariant (omega arith) (omega arith) _ _ c.few-f.ensures _ c.bar.ensures
