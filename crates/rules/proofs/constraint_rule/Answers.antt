-- `constraint_rule` is the clauses, then the limits. Assumes nothing.
use Rattle.rules.proofs.Rules.{rule_made, made-differs}
use Rattle.rules.proofs.constraint_rule.Goals as goal

pub returns : goal.returns
returns c =
    let m = rule_made c.args.all _ c.args.c.now _ _ _ c.scope-w.ensures c.applied.ensures.value c.applied-2.ensures.value in
    record { value = m; differing = made-differs c.args.all c.args.c.now _ _ m }
