-- `write_clause` writes one term after the other, a 0 and a newline. Assumes nothing.
use Rattle.std.proofs.Common.{take}
use Rattle.std.specs.List.{flat_map}
use Rattle.text.specs.Put.{Wrote, term_text}
use Rattle.terms.specs.Terms.{clause_terms}
use Rattle.terms.proofs.write_clause.Given as goal

abbrev pub invariant-loop-i : goal.invariant-loop-i
invariant-loop-i l = Wrote (flat_map term_text (take l.i (clause_terms l.ns l.code l.count l.j))) 0 l.initial.buf l.buf l.n
