-- `fix` stores at the place of the group, where there is one. Assumes nothing.
use Rattle.std.proofs.Common.{refl, arith}
use Rattle.model.specs.Model.{zero_group}
use Rattle.model.specs.Propagate.{fixed_with, made_true}
use Rattle.table.proofs.Rules.{stored, not-there}
use Rattle.clause_rule.proofs.fix.Goals as goal

pub returns-then-i-lt-GROUPS : goal.returns-then-i-lt-GROUPS
unfolding made_true fixed_with zero_group
returns-then-i-lt-GROUPS c = stored c.args.t.now _ _ (omega (arith, c.id.ensures)) (fixed_with c.args.w) _ refl

pub returns-else-i-lt-GROUPS : goal.returns-else-i-lt-GROUPS
unfolding made_true
returns-else-i-lt-GROUPS c = not-there c.args.t.now _ c.saturating_sub-i.result (omega (arith, c.id.ensures)) (fixed_with c.args.w) (omega arith)
