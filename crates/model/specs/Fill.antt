-- Filling, request 2 of document 02: "Given a settled model and a set of entrants per group, fill the lent marks with the one satisfying assignment,
-- counters included."
use Rattle.std.specs.Prelude.{ℕ, suc, ◌+◌, Bool, true, false, cond, not, List, [], ◌∷◌, ◌++◌, map, ltb, eqb, length, get_or, take, drop}
use Rattle.std.specs.Int.Bits.{bit_and, bit_or}
use Rattle.model.specs.declared.Group.{Group}
use Rattle.model.specs.declared.Constraint.{Constraint}
use Rattle.model.specs.declared.Model.{Model}
use Rattle.std.specs.List.{flat_map}
use Rattle.model.specs.Lists.{those, each_pair, range, stop}
use Rattle.model.specs.Words.{less, has}
use Rattle.model.specs.Model.{table_of, constraints_of}
use Rattle.model.specs.Propagate.{unsettled_or}
use Rattle.model.specs.Totalizer.{Shape, leaf, node, shape, leaves}
use Rattle.model.specs.Cnf.{open_of, counted, differing, variable_count}
use Rattle.model.specs.Solution.{set_of, is_solution}

-- ---- variables: that of an open entrant is true where the entrant is in the group's set

-- of the entrants below n those in o, in order: whether w has them
unfoldable pub open_values : ℕ → ℕ → ℕ → List Bool
open_values n o w = map (has w) (those (has o) (range 0 n))

-- the variables of a group whose set is w
abbrev pub variable_values : ℕ → Group → ℕ → List Bool
variable_values n g w = open_values n (open_of g) w

-- ---- counters: output i of a node is true where at least i of its leaves are

-- how many are true
abbrev pub count : List Bool → ℕ
count [] = 0
count (true ∷ xs) = suc (count xs)
count (false ∷ xs) = count xs

-- the outputs of a node of m leaves of which x are true
abbrev pub unary : ℕ → ℕ → List Bool
unary m x = map (λ i. ltb i x) (range 0 m)

-- the outputs of a tree, "left half, right half, then the node itself", from the values of its leaves
abbrev pub tree_values : Shape → List Bool → List Bool
tree_values leaf xs = []
tree_values (node l r) xs = tree_values l (take (leaves l) xs) ++ (tree_values r (drop (leaves l) xs) ++ unary (leaves l + leaves r) (count xs))

-- the outputs of a group's counter, where it has one
unfoldable pub output_values : ℕ → Group → ℕ → List Bool
output_values n g w = let xs = variable_values n g w in cond (counted g) (tree_values (shape (length xs)) xs) []

-- ---- request 6: X of an entrant is true where "in just one of them"

-- the entrants in just one of two sets
unfoldable pub one_of : ℕ → ℕ → ℕ
one_of f g = less (bit_or f g) (bit_and f g)

-- the set of member i of a constraint
abbrev pub member_set : List ℕ → Constraint → ℕ → ℕ
member_set d c i = set_of d (get_or c.groups i 0)

-- the X of a constraint
unfoldable pub difference_values : ℕ → List Group → List ℕ → Constraint → List Bool
difference_values n t d c = open_values n (differing t c) (one_of (member_set d c 0) (member_set d c 1))

-- ---- "Variables: for groups 1..s, entrants 1..n with mark 1, numbered on from 1. Then counters, groups in order." Then the X, "after all counters by
-- line and then by entrant"

unfoldable pub assignment_for : Model → List ℕ → List Bool
assignment_for m d =
    each_pair (variable_values m.n) (table_of m) d
    ++ (each_pair (output_values m.n) (table_of m) d ++ flat_map (difference_values m.n (table_of m) d) (constraints_of m))

-- the values of an assignment: "1 true, 2 false"
abbrev pub value_of : Bool → ℕ
value_of b = cond b 1 2

unfoldable pub values_of : List Bool → List ℕ
values_of a = map value_of a

-- ---- a call: "30, the groups, those past s ignored, are not a draw of the model, an entrant past n included; after 20 and 22, before 26"

unfoldable pub fill_refusal : Model → List ℕ → List ℕ → ℕ
fill_refusal m d values =
    unsettled_or m
    (stop (not (is_solution m (take m.s d))) 30
    (stop (not (eqb (length values) (variable_count m))) 26 0))

-- the values after the call: a refused one changes none
unfoldable pub filled_values : Model → List ℕ → List ℕ → List ℕ
filled_values m d values = cond (eqb (fill_refusal m d values) 0) (values_of (assignment_for m (take m.s d))) values
