-- What the parts of filling write and ask.
use Rattle.std.specs.Prelude.{ℕ, Bool, cond, List, [], ◌∷◌, map, eqb, length, take}
use Rattle.model.specs.declared.Group.{Group}
use Rattle.model.specs.declared.Constraint.{Constraint}
use Rattle.model.specs.Words.{has}
use Rattle.model.specs.Clauses.{member_count, is_difference}
use Rattle.model.specs.Difference.{apart}
use Rattle.model.specs.Totalizer.{shape}
use Rattle.model.specs.Cnf.{either_open}
use Rattle.model.specs.Solution.{meaning, set_of}
use Rattle.model.specs.Close.{assignment_of}
use Rattle.model.specs.Fill.{open_values, tree_values, one_of, member_set, value_of, values_of}

-- whether the sets of a constraint's groups are as its code says, where the words are d
abbrev pub sets_true : List ℕ → Constraint → Bool
sets_true d c = meaning c.code (map (set_of d) (take (member_count c.code c.count) c.groups))

-- the value of entrant e, where it is in o: whether w has it
unfoldable pub entrant_value : ℕ → ℕ → ℕ → List ℕ
entrant_value o w e = cond (has o e) (value_of (has w e) ∷ []) []

-- the outputs of the tree over leaves
unfoldable pub tree_of : List ℕ → List ℕ
tree_of leaves = values_of (tree_values (shape (length leaves)) (assignment_of leaves))

-- the X of a constraint whose first two groups are f and g
unfoldable pub pair_values : ℕ → Group → Group → List ℕ → Constraint → List Bool
pair_values n f g d c =
    cond (is_difference c)
    (open_values n (cond (eqb (apart f g) 0) (either_open f g) 0) (one_of (member_set d c 0) (member_set d c 1))) []
