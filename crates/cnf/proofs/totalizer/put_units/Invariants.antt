-- `put_units` writes unit clauses. Assumes nothing.
use Rattle.std.specs.List.{flat_map}
use Rattle.model.specs.Lists.{range}
use Rattle.text.specs.Put.{Wrote}
use Rattle.cnf.specs.Parts.{unit_text}
use Rattle.cnf.proofs.totalizer.put_units.Given as goal

abbrev pub invariant-loop-i : goal.invariant-loop-i
invariant-loop-i l = Wrote (flat_map (unit_text l.positive l.first) (range l.a l.i)) l.at l.initial.buf l.buf l.n
