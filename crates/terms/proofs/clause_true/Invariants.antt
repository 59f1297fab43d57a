-- `clause_true` tells whether a term of a clause is true. Assumes nothing.
use Rattle.std.proofs.Common.{◌≡◌, drop}
use Rattle.std.specs.List.{list_any}
use Rattle.model.specs.Totalizer.{holds}
use Rattle.terms.specs.Terms.{clause_terms}
use Rattle.terms.proofs.clause_true.Given as goal

abbrev pub invariant-loop-i : goal.invariant-loop-i
invariant-loop-i l = list_any holds (clause_terms l.ns l.code l.count l.j) ≡ list_any holds (drop l.i (clause_terms l.ns l.code l.count l.j))
