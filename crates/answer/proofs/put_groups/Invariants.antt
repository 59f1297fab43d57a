-- `put_groups` writes line after line. Invariant: those of the groups before i are written. Assumes nothing.
use Rattle.std.specs.List.{flat_map}
use Rattle.model.specs.Lists.{range}
use Rattle.text.specs.Put.{Wrote}
use Rattle.answer.specs.Groups.{group_at}
use Rattle.answer.proofs.put_groups.Given as goal

abbrev pub invariant-loop-i : goal.invariant-loop-i
invariant-loop-i l = Wrote (flat_map (group_at l.words) (range 0 l.i)) 0 l.initial.buf l.buf l.n
