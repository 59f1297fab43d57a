-- `put_node` writes a node's clauses. Assumes nothing.
use Rattle.std.specs.List.{flat_map}
use Rattle.model.specs.Lists.{range}
use Rattle.text.specs.Put.{Wrote}
use Rattle.cnf.specs.Parts.{row_text}
use Rattle.cnf.proofs.totalizer.put_node.Given as goal

abbrev pub invariant-loop-p : goal.invariant-loop-p
invariant-loop-p l = Wrote (flat_map (row_text l.t) (range 0 l.p)) l.at l.initial.buf l.buf l.n
