-- `constraint_holds` judges clause by clause. Invariant: the test of all is the test of those from j on. Assumes nothing.
use Rattle.constraint_clauses.specs.Holds.{clause_holds}
use Rattle.model.specs.Clauses.{member_clauses}
use Rattle.std.specs.List.{list_all}
use lib.ListN.{drop}
use mathlib.Core.Path.{◌≡◌}
use Rattle.constraint_clauses.proofs.constraint_holds.Given as goal

abbrev pub invariant-loop-j : goal.invariant-loop-j
invariant-loop-j l =
    list_all (clause_holds l.words l.ids l.all) (member_clauses l.code l.k) ≡ list_all (clause_holds l.words l.ids l.all) (drop l.j (member_clauses l.code l.k))
