-- `put_entrant` writes the clauses of one entrant. Assumes nothing.
use Rattle.std.specs.List.{flat_map}
use Rattle.model.specs.Lists.{range}
use Rattle.text.specs.Put.{Wrote, kept_text}
use Rattle.terms.specs.Terms.{clause_terms}
use Rattle.cnf.proofs.put_entrant.Given as goal

abbrev pub invariant-loop-j : goal.invariant-loop-j
invariant-loop-j l = Wrote (flat_map (λ i. kept_text (clause_terms l.ns l.code l.count i)) (range 0 l.j)) l.at l.initial.buf l.buf l.n
