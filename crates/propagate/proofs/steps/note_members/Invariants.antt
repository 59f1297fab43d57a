-- `note_members` notes group after group. Invariant: those from it on are left. Assumes nothing.
use Rattle.propagate.proofs.Noting.{MembersLeft}
use Rattle.propagate.proofs.steps.note_members.Given as goal

abbrev pub invariant-loop-g : goal.invariant-loop-g
invariant-loop-g l =
    MembersLeft l.ids l.g-index l.changed l.index l.t l.initial.seen.table l.seen.table l.initial.seen.groups l.initial.seen.lines l.seen.groups l.seen.lines
