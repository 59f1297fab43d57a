-- `bar` stores at the place of the group, where there is one. Assumes nothing.
use Rattle.std.proofs.Common.{arith}
use Rattle.model.specs.Model.{zero_group}
use Rattle.model.specs.Propagate.{possible_without, made_true}
use Rattle.table.proofs.Rules.{stored, not-there}
use Rattle.clause_rule.proofs.bar.Goals as goal

pub returns-then-i-lt-GROUPS : goal.returns-then-i-lt-GROUPS
unfolding made_true possible_without zero_group
returns-then-i-lt-GROUPS c = stored c.args.t.now _ _ (omega (arith, c.id.ensures)) (possible_without c.args.w) _ (rw c.without.ensures)

pub returns-else-i-lt-GROUPS : goal.returns-else-i-lt-GROUPS
unfolding made_true
returns-else-i-lt-GROUPS c = not-there c.args.t.now _ c.saturating_sub-i.result (omega (arith, c.id.ensures)) (possible_without c.args.w) (omega arith)
