use Rattle.std.proofs.Common.{◌∙◌, arith}
use Rattle.model.specs.Propagate.{constraint_rule}
use Rattle.table.proofs.Rules.{one_rule_more, all_rules}
use Rattle.propagate.proofs.Passes.{n-few, among_all, pass-made}
use Rattle.propagate.proofs.passed.Goals as goal

pub loop-l-preserved : goal.loop-l-preserved
loop-l-preserved c =
    let m = c.args.m.now in
    one_rule_more (constraint_rule m.n) _ _ c.loop-l.l-index _ c.loop-l.invariant c.loop-l-test.true _ _
    (c.constraint_rule.ensures.value ∙ among_all m.n _ _ _ (omega (arith, n-few m c.requires)) c.entrants-all.ensures)

pub returns : goal.returns
returns c =
    let m = c.args.m.now in
    let t = c.requires in
    record {
      sized = c.whole.ensures.2;
      before = c.whole.ensures.0;
      pass = pass-made m.n m.s _ _ _ _ c.group_rules.ensures (all_rules (constraint_rule m.n) _ _ c.loop-l.l-index _ c.loop-l.invariant (omega arith));
      same-is = c.is_same-same.ensures;
      ok-is = c.is_tenable-tenable.ensures;
    }
