-- `put_row` writes a node's clauses of one p. Assumes nothing.
use Rattle.std.specs.List.{flat_map}
use Rattle.model.specs.Lists.{range}
use Rattle.text.specs.Put.{Wrote}
use Rattle.cnf.specs.Parts.{pair_text}
use Rattle.cnf.proofs.totalizer.put_row.Given as goal

abbrev pub invariant-loop-q : goal.invariant-loop-q
invariant-loop-q l = Wrote (flat_map (pair_text l.t l.p) (range 0 l.q)) l.at l.initial.buf l.buf l.n
