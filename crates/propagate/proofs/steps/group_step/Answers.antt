-- `group_step` is the rule of a group, which is noted then. Assumes nothing.
use Rattle.std.proofs.Common.{arith}
use Rattle.propagate.proofs.Noting.{group-noted, group-quiet}
use Rattle.propagate.proofs.steps.group_step.Goals as goal

pub returns-then-not-changed : goal.returns-then-not-changed
returns-then-not-changed c =
    group-quiet c.args.i c.requires.0 _ _ _ _ _ (omega arith) c.requires.1 c.group_rule_at.ensures _ _ _ _ _ _ c.note-changed.ensures c.if-not-changed.true (omega arith) c.unmark.ensures

pub returns-else-not-changed : goal.returns-else-not-changed
returns-else-not-changed c =
    group-noted c.args.i c.requires.0 _ _ _ _ _ (omega arith) c.requires.1 c.group_rule_at.ensures _ _ _ _ _ c.note-changed.ensures
