-- `clause_word` joins literal by literal. Invariant: those before i are joined. Assumes nothing.
use mathlib.Core.Path.{◌≡◌}
use mathlib.Core.List.{[]}
use lib.ListN.{get_or, drop}
use Rattle.model.specs.Clauses.{member_clauses}
use Rattle.constraint_clauses.specs.Holds.{clause_word}
use Rattle.constraint_clauses.proofs.clause_word.Given as goal

abbrev pub invariant-loop-i : goal.invariant-loop-i
invariant-loop-i l =
    clause_word l.words l.ids l.all 0 (get_or (member_clauses l.code l.k) l.j []) ≡ clause_word l.words l.ids l.all l.w (drop l.i (get_or (member_clauses l.code l.k) l.j []))
