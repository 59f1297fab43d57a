-- `group_rules` goes from group to group. Invariant: the rules of the first i are done. Assumes nothing.
use Rattle.std.proofs.Common.{◌≡◌, map}
use Rattle.model.specs.Lists.{range}
use Rattle.model.specs.Propagate.{group_rule_at, run}
use Rattle.rules.proofs.group_rules.Given as goal

abbrev pub invariant-loop-i : goal.invariant-loop-i
invariant-loop-i l = l.t ≡ run (map group_rule_at (range 1 l.i)) l.initial.t
