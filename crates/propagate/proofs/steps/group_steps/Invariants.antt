-- `group_steps` goes from marked group to marked group. Invariant: those from i on are left. Assumes nothing.
use Rattle.std.proofs.Common.{◌≡◌, ◌-◌}
use Rattle.propagate.proofs.Skipping.{GroupsLeft}
use Rattle.propagate.proofs.steps.group_steps.Given as goal

abbrev pub invariant-loop-i : goal.invariant-loop-i
invariant-loop-i l =
    (l.seen.table ≡ l.t)
    × GroupsLeft l.s l.index l.i l.changed l.initial.t l.initial.seen.groups l.initial.seen.lines l.t l.seen.groups l.seen.lines

abbrev pub decreases-loop-i : goal.decreases-loop-i
decreases-loop-i l = l.s - l.i
