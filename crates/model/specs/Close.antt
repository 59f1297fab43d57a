-- Closing: "The closing call changes no mark, checks every clause and gives each group's entrants as a table by value, zero past s."
use Rattle.std.specs.Prelude.{ℕ, ◌-◌, Bool, true, false, cond, not, ◌&&◌, List, ◌∷◌, ◌++◌, map, eqb, length, get_or, replicate}
use Rattle.model.specs.declared.Literal.{Literal}
use Rattle.model.specs.declared.Literal.TheVariants.{Pos, Neg}
use Rattle.model.specs.declared.Term.{Term}
use Rattle.model.specs.declared.Term.TheVariants.{Holds, Fails, Open}
use Rattle.model.specs.declared.Model.{Model}
use Rattle.model.specs.declared.Reading.{Reading}
use Rattle.model.specs.declared.Closed.{Closed}
use Rattle.std.specs.List.{list_all, list_any}
use Rattle.model.specs.Lists.{range, stop}
use Rattle.model.specs.Words.{word_where}
use Rattle.model.specs.Limits.{limits}
use Rattle.model.specs.Model.{table_of}
use Rattle.model.specs.Propagate.{unsettled_or}
use Rattle.model.specs.Cnf.{variable_count, membership, clauses}
use Rattle.model.specs.Assignment.{is_said}

-- "An assignment makes each variable 1..V true or false": a Boolean for each, variable 1 first
abbrev pub truth : List Bool → ℕ → Bool
truth a v = get_or (false ∷ a) v false

abbrev pub literal_true : List Bool → Literal → Bool
literal_true a (Pos v) = truth a v
literal_true a (Neg v) = not (truth a v)

abbrev pub term_true : List Bool → Term → Bool
term_true a Holds = true
term_true a Fails = false
term_true a (Open l) = literal_true a l

-- "and is satisfying when every clause of the listing has a true literal"
unfoldable pub clause_true : List Bool → List Literal → Bool
clause_true a c = list_any (literal_true a) c

unfoldable pub satisfying : Model → List Bool → Bool
satisfying m a = list_all (clause_true a) (clauses m)

-- "per group the entrants fixed and the open ones whose variable is true. The assignment reads back as these."
unfoldable pub group_by : Model → List Bool → ℕ → ℕ
group_by m a g = word_where (λ e. term_true a (membership (table_of m) e g)) m.n

unfoldable pub groups_by : Model → List Bool → List ℕ
groups_by m a = map (group_by m a) (range 1 m.s)

-- "as a table by value, zero past s"
unfoldable pub closed_groups : Model → List Bool → List ℕ
closed_groups m a = groups_by m a ++ replicate (limits.groups - m.s) 0

-- the assignment of values that are all said
unfoldable pub assignment_of : List ℕ → List Bool
assignment_of values = map (λ b. eqb b 1) values

-- "close 20, 22, 26, 27, 28"
unfoldable pub close_refusal : Model → Reading → List ℕ → ℕ
close_refusal m r values =
    unsettled_or m
    (stop (not (eqb (length values) (variable_count m))) 26
    (stop (not (r.closed && list_all is_said values)) 27
    (stop (not (satisfying m (assignment_of values))) 28 0)))

unfoldable pub closed : Model → Reading → List ℕ → Closed
closed m r values = record {
  refusal = close_refusal m r values;
  groups = cond (eqb (close_refusal m r values) 0) (closed_groups m (assignment_of values)) (replicate limits.groups 0);
}
