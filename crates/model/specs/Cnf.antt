-- The clauses of the listing, block by block: numbering, totalizers, constraints, V and C.
use Rattle.std.specs.Prelude.{ℕ, ◌+◌, ◌-◌, ◌%◌, ◌^◌, Bool, cond, not, ◌&&◌, ◌||◌, List, [], ◌++◌, map, leb, ltb, eqb, length, get_or, take}
use Rattle.std.specs.Int.Bits.{bit_or}
use Rattle.model.specs.declared.Literal.{Literal}
use Rattle.model.specs.declared.Literal.TheVariants.{Pos, Neg}
use Rattle.model.specs.declared.Term.{Term}
use Rattle.model.specs.declared.Term.TheVariants.{Holds, Fails, Open}
use Rattle.model.specs.declared.Group.{Group}
use Rattle.model.specs.declared.Constraint.{Constraint}
use Rattle.model.specs.declared.Model.{Model}
use Rattle.std.specs.List.{flat_map}
use Rattle.model.specs.Lists.{total, range}
use Rattle.model.specs.Words.{less, size, has}
use Rattle.model.specs.Clauses.{is_difference, member_clauses}
use Rattle.model.specs.Model.{zero_constraint, group_at, member_at, table_of, constraints_of}
use Rattle.model.specs.Difference.{is_apart}
use Rattle.model.specs.Totalizer.{opposite_term, keep, totalizer_blocks, tree_clause_count, tree_output_count}

-- ---- "A counter exists for a group with m open entrants, L = low less the fixed, U = high less the fixed, exactly when L > 0 or U < m."

unfoldable pub open_of : Group → ℕ
open_of g = less g.possible g.fixed

-- m, L and U
unfoldable pub open_count : Group → ℕ
open_count g = size (open_of g)

unfoldable pub at_least : Group → ℕ
at_least g = g.low - size g.fixed

unfoldable pub at_most : Group → ℕ
at_most g = g.high - size g.fixed

unfoldable pub counted : Group → Bool
counted g = ltb 0 (at_least g) || ltb (at_most g) (open_count g)

unfoldable pub outputs_of : Group → ℕ
outputs_of g = cond (counted g) (tree_output_count (open_count g)) 0

-- ---- "Variables: for groups 1..s, entrants 1..n with mark 1, numbered on from 1. Then counters, groups in order."

-- the first variable of group g, and the first output of its totalizer
unfoldable pub first_variable : List Group → ℕ → ℕ
first_variable t g = 1 + total open_count (take (g - 1) t)

unfoldable pub first_output : List Group → ℕ → ℕ
first_output t g = 1 + total open_count t + total outputs_of (take (g - 1) t)

-- the variable of the open bit e of group g
unfoldable pub variable_of : List Group → ℕ → ℕ → ℕ
variable_of t g e = first_variable t g + size (open_of (group_at t g) % 2 ^ e)

-- "the number of open marks plus A(m) per counter"
unfoldable pub table_variables : List Group → ℕ
table_variables t = total open_count t + total outputs_of t

-- ---- request 6: "Each entrant open in at least one of the two groups gets a variable X, numbered after all counters by line and then by entrant."

unfoldable pub either_open : Group → Group → ℕ
either_open f g = bit_or (open_of f) (open_of g)

-- "Where a settled entrant already differs, the line has no variables and no clauses.": a constraint that has them, and the entrants of its variables
unfoldable pub is_open_difference : List Group → Constraint → Bool
is_open_difference t c = is_difference c && not (is_apart t c)

unfoldable pub differing : List Group → Constraint → ℕ
differing t c = cond (is_open_difference t c) (either_open (member_at t c 0) (member_at t c 1)) 0

unfoldable pub difference_count : List Group → Constraint → ℕ
difference_count t c = size (differing t c)

-- the first X of constraint j, where the first of all is `base`
unfoldable pub first_difference : ℕ → Model → ℕ → ℕ
first_difference base m j = base + total (difference_count (table_of m)) (take (j - 1) (constraints_of m))

-- "V is the number of open marks plus A(m) per counter", and the X
unfoldable pub variable_count : Model → ℕ
variable_count m = table_variables (table_of m) + total (difference_count (table_of m)) (constraints_of m)

-- ---- the blocks of a group: "one block per tree node of size 2 or more, in tree order, the root's with the units; a group without a counter has none"

unfoldable pub group_blocks : List Group → ℕ → List (List (List Literal))
group_blocks t g =
    let r = group_at t g in
    cond (counted r) (totalizer_blocks (open_count r) (first_variable t g) (first_output t g) (at_least r) (at_most r)) []

-- ---- the clauses of a constraint, "by entrant, then clause"

-- "in group g" for bit e: known where it is fixed or not possible
unfoldable pub membership : List Group → ℕ → ℕ → Term
membership t e g =
    cond (has (group_at t g).fixed e) Holds
    (cond (has (group_at t g).possible e) (Open (Pos (variable_of t g e))) Fails)

-- X of bit e, where the constraint's X are numbered from x on: false for an entrant who has none
unfoldable pub difference : ℕ → List Group → Constraint → ℕ → Term
difference x t c e = cond (has (differing t c) e) (Open (Pos (x + size (differing t c % 2 ^ e)))) Fails

-- member i of a constraint: a group, or X
unfoldable pub constraint_term : ℕ → List Group → Constraint → ℕ → ℕ → Term
constraint_term x t c e i = cond (is_difference c && eqb i 2) (difference x t c e) (membership t e (get_or c.groups i 0))

abbrev pub term_of : (ℕ → Term) → Literal → Term
term_of f (Pos i) = f i
term_of f (Neg i) = opposite_term (f i)

unfoldable pub clauses_at : ℕ → List Group → Constraint → ℕ → List (List Literal)
clauses_at x t c e =
    cond (is_apart t c) [] (flat_map (λ ls. keep (map (term_of (constraint_term x t c e)) ls)) (member_clauses c.code c.count))

-- "The line's last clause holds all its X in rising order."
unfoldable pub last_clause : ℕ → ℕ → List Group → Constraint → List (List Literal)
last_clause n x t c = cond (is_open_difference t c) (keep (map (difference x t c) (range 0 n))) []

unfoldable pub constraint_clauses : ℕ → List Group → ℕ → Constraint → List (List Literal)
constraint_clauses n t x c = flat_map (clauses_at x t c) (range 0 n) ++ last_clause n x t c

-- the block of line j
unfoldable pub line_clauses : Model → ℕ → List (List Literal)
line_clauses m j =
    let t = table_of m in
    constraint_clauses m.n t (first_difference (1 + table_variables t) m j) (get_or (constraints_of m) (j - 1) zero_constraint)

-- ---- the blocks after block 0: those of groups 1..s, then "Line blocks follow"

unfoldable pub node_blocks : Model → List (List (List Literal))
node_blocks m = flat_map (group_blocks (table_of m)) (range 1 m.s)

unfoldable pub block_clauses : Model → ℕ → List (List Literal)
block_clauses m b =
    let k = length (node_blocks m) in
    let own = get_or (node_blocks m) (b - 1) [] in
    let line = line_clauses m (b - k) in
    cond (leb b k) own line

-- "23 is a block above this new total"
unfoldable pub block_count : Model → ℕ
block_count m = length (node_blocks m) + m.c

-- every clause of the listing, in order
unfoldable pub clauses : Model → List (List Literal)
clauses m = flat_map (block_clauses m) (range 1 (block_count m))

-- "C is, per counter, T(m) + L + m - U, plus the line clauses not left out, entrants 1..n", a code 7 line's last included. Their number is the same
-- wherever the X are numbered from
unfoldable pub group_clause_count : Group → ℕ
group_clause_count g = cond (counted g) (tree_clause_count (open_count g) + at_least g + (open_count g - at_most g)) 0

unfoldable pub clause_count : Model → ℕ
clause_count m =
    total group_clause_count (table_of m)
    + total (λ c. length (constraint_clauses m.n (table_of m) 0 c)) (constraints_of m)
