-- How many clauses an entrant, a constraint and a listing keep. Assumes nothing.
use Rattle.std.specs.Prelude.{ℕ, cond, List, map, eqb, length}
use Rattle.model.specs.declared.Model.{Model}
use Rattle.model.specs.Lists.{range, total}
use Rattle.model.specs.Clauses.{member_clauses}
use Rattle.model.specs.Totalizer.{keep}
use Rattle.model.specs.Propagate.{unsettled_or}
use Rattle.model.specs.Cnf.{clause_count}
use Rattle.terms.specs.declared.Member.{Member}
use Rattle.terms.specs.Terms.{member_number, clause_terms}

unfoldable pub kept_count : List ℕ → ℕ → ℕ → ℕ → ℕ
kept_count ns code count j = length (keep (clause_terms ns code count j))

unfoldable pub entrant_count : List ℕ → ℕ → ℕ → ℕ
entrant_count ns code count = total (kept_count ns code count) (range 0 (length (member_clauses code count)))

unfoldable pub constraint_count : List Member → ℕ → ℕ → ℕ → ℕ
constraint_count ms code count n = total (λ e. entrant_count (map (member_number e) ms) code count) (range 0 n)

-- C of the listing; 0 where there is none, the model being refused by 20 or 22
unfoldable pub listed_clauses : Model → ℕ
listed_clauses m = cond (eqb (unsettled_or m 0) 0) (clause_count m) 0
