-- `put_open` writes entrant after entrant. Invariant: those before e are written. Assumes nothing.
use Rattle.std.specs.List.{flat_map}
use Rattle.model.specs.Lists.{range}
use Rattle.text.specs.Put.{Wrote}
use Rattle.filling.specs.Parts.{entrant_value}
use Rattle.filling.proofs.put_open.Given as goal

abbrev pub invariant-loop-e : goal.invariant-loop-e
invariant-loop-e l = Wrote (flat_map (entrant_value l.free l.w) (range 0 l.e)) l.at l.initial.values l.values l.k
