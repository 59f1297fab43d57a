-- `put_entrants` writes entrant after entrant. Invariant: those before e are written. Assumes nothing.
use Rattle.std.specs.List.{flat_map}
use Rattle.model.specs.Lists.{range}
use Rattle.text.specs.Put.{Wrote}
use Rattle.answer.specs.Groups.{entrant_text}
use Rattle.answer.proofs.put_entrants.Given as goal

abbrev pub invariant-loop-e : goal.invariant-loop-e
invariant-loop-e l = Wrote (flat_map (entrant_text l.w) (range 0 l.e)) l.at l.initial.buf l.buf l.n
