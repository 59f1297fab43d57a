-- The constraint rule for a word of entrants, and what it asks of code 7, whatever the limits of the table are.
use Rattle.std.specs.Prelude.{ℕ, ◌≡◌, Bool, cond, List, ◌++◌, map, length}
use Rattle.model.specs.declared.Group.{Group}
use Rattle.model.specs.declared.Constraint.{Constraint}
use Rattle.model.specs.Limits.{limits}
use Rattle.model.specs.Clauses.{is_difference, clauses_of}
use Rattle.model.specs.LimitRules.{limit_rules}
use Rattle.model.specs.Difference.{unlike_in, lone, may_differ}
use Rattle.model.specs.Propagate.{clause_rule, run}
use Rattle.table.specs.Table.{zipped}

-- where the word is that of entrants 1..n, this is `scope n` and `constraint_rule n`
unfoldable pub scope_among : ℕ → List Group → Constraint → ℕ
scope_among all t c = cond (is_difference c) (lone (unlike_in t c)) all

unfoldable pub rule_among : ℕ → Constraint → List Group → List Group
rule_among all c t = run (map (clause_rule (scope_among all t c)) (clauses_of c) ++ limit_rules c) t

-- of a table with these sets, whatever its limits are
abbrev pub Of : List ℕ → List ℕ → (List Group → Type 0) → Type 0
Of f p P = (l h : List ℕ) → length l ≡ limits.groups → length h ≡ limits.groups → P (zipped f p l h)

abbrev pub MayDiffer : Bool → List ℕ → List ℕ → Constraint → Type 0
MayDiffer r f p c = Of f p (λ t. r ≡ may_differ t c)
