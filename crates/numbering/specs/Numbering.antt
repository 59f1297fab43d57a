-- What a group's totalizer is made from, and the numbers of all variables as one value. Assumes nothing.
use Rattle.std.specs.Prelude.{ℕ, ◌+◌, ◌-◌, List, map, take}
use Rattle.model.specs.declared.Group.{Group}
use Rattle.model.specs.declared.Constraint.{Constraint}
use Rattle.model.specs.declared.Model.{Model}
use Rattle.model.specs.Lists.{total, range}
use Rattle.model.specs.Limits.{limits}
use Rattle.model.specs.Model.{table_of, constraints_of}
use Rattle.model.specs.Cnf.{open_count, at_least, at_most, counted, first_variable, first_output, table_variables, difference_count, variable_count}
use Rattle.numbering.specs.declared.Totalizer.{Totalizer}
use Rattle.numbering.specs.declared.Numbering.{Numbering}

-- m, L and U, and whether there is a totalizer
unfoldable pub totalizer_of : Group → Totalizer
totalizer_of g = record { size = open_count g; low = at_least g; high = at_most g; exists = counted g }

-- the first number of each of n items, of which the first are xs, where the numbers start at base and an item has as many as f says
abbrev pub numbers_from : {A : Type 0} → (A → ℕ) → ℕ → ℕ → List A → List ℕ
numbers_from f n base xs = map (λ j. base + total f (take (j - 1) xs)) (range 1 n)

-- the first variable of each group, and the first output of its totalizer
unfoldable pub first_variables : List Group → List ℕ
first_variables t = map (first_variable t) (range 1 limits.groups)

unfoldable pub first_outputs : List Group → List ℕ
first_outputs t = map (first_output t) (range 1 limits.groups)

-- the first X of each constraint, from a number on
unfoldable pub differences_from : ℕ → List Group → List Constraint → List ℕ
differences_from base t cs = map (λ j. base + total (difference_count t) (take (j - 1) cs)) (range 1 limits.constraints)

-- with V, the numbering of a model
unfoldable pub numbering_of : Model → Numbering
numbering_of m =
    let t = table_of m in
    record {
      first = first_variables t;
      outputs = first_outputs t;
      differences = differences_from (1 + table_variables t) t (constraints_of m);
      variables = variable_count m;
    }
