-- The starred examples A to I of document 01, as request 1 has them, proved together as one table over the definitions; the limits of each code,
-- fillings, the printed steps of a node, the published DIMACS samples, blank marks, two committees' sheets, groups that must not be the same and
-- sixty-four entrants beside them. Assumes nothing.
use mathlib.Core.Path.{◌≡◌, refl}
use Prim.Native.Nat.{ℕ, ◌-◌}
use Prim.Native.Char.{code}
use Prim.Native.String.{String, [] as ε, ◌∷◌ as ◌◁◌}
use mathlib.Core.Bool.{Bool, false, not, ◌&&◌}
use mathlib.Core.List.Memᴰ
use mathlib.Core.List.{List, [], ◌∷◌, ◌++◌, map, Memᴰ}
use Rattle.std.specs.Prelude.{Option, None, Some}
use lib.Dec.{T, leb, eqb, leb→le}
use lib.ListN.{length, replicate, get_or}
use Rattle.model.specs.declared.Literal.{Literal}
use Rattle.model.specs.declared.Literal.TheVariants.{Pos, Neg}
use Rattle.model.specs.declared.Term.TheVariants.{Holds, Fails, Open}
use Rattle.model.specs.declared.Node.{Node}
use Rattle.model.specs.declared.Constraint.{Constraint}
use Rattle.model.specs.declared.Model.{Model}
use Rattle.model.specs.declared.Closed.{Closed}
use Rattle.std.specs.List.{list_all, flat_map}
use Rattle.model.specs.Lists.{those, pairwise, range}
use Rattle.model.specs.Limits.{limits}
use Rattle.model.specs.Model.{zero_group, zero_constraint, table_of, in_range}
use Rattle.model.specs.Sheet.{read_sheet}
use Rattle.model.specs.Propagate.{propagated, same_table, is_fixpoint}
use Rattle.model.specs.Totalizer.{formed, put_in, dropped, shape, nodes, totalizer_blocks, tree_clause_count, tree_output_count}
use Rattle.model.specs.Cnf.{variable_count, block_clauses, block_count, clauses}
use Rattle.model.specs.Text.{field_text, header_text, block_text, listing, block_refusal}
use Rattle.model.specs.SheetText.{sheet_text}
use Rattle.model.specs.Dimacs.{Formula, read_dimacs}
use Rattle.model.specs.Assignment.{line_read, values_after}
use Rattle.model.specs.Close.{satisfying, assignment_of, closed}
use Rattle.model.specs.Solution.{is_solution, all_tables, solutions}
use Rattle.model.specs.Fill.{fill_refusal, filled_values}
use Rattle.model.specs.Combine.{combined}
use Rattle.model.specs.Demand.{fresh_reading, is_candidate}
use Rattle.model.specs.Defs.{defs}
use Rattle.model.proofs.Lists.{and_left, and_right}
use Rattle.model.proofs.Solutions.{solution_listed}

-- ---- how an example is written and compared

bytes : String → List ℕ
bytes ε = []
bytes (c ◁ s) = code c ∷ bytes s

same : List ℕ → List ℕ → Bool
same a b = pairwise eqb a b

same_literal : Literal → Literal → Bool
same_literal (Pos a) (Pos b) = eqb a b
same_literal (Pos a) (Neg b) = false
same_literal (Neg a) (Pos b) = false
same_literal (Neg a) (Neg b) = eqb a b

same_clauses : List (List Literal) → List (List Literal) → Bool
same_clauses a b = pairwise (pairwise same_literal) a b

-- a text reads as V, C and these clauses
reads : List ℕ → ℕ → ℕ → List (List Literal) → Bool
reads text v c cs = is (read_dimacs text)
  where
    is : Option Formula → Bool
    is None = false
    is (Some f) = eqb f.variables v && eqb f.clause_count c && same_clauses f.clauses cs

-- the model of a sheet, and its settled model
pub model_of : String → Model
model_of s = (read_sheet (bytes s)).model

settled : String → Model
settled s = (propagated (model_of s)).model

-- an accepted sheet that settles in p passes, and its settled table is a fixpoint and a candidate of demand 3
settles_in : ℕ → String → Bool
settles_in p s =
    let r = read_sheet (bytes s) in
    let a = propagated r.model in
    eqb r.refusal 0 && eqb r.line 0 && eqb a.refusal 0 && eqb a.passes p
    && is_fixpoint a.model && is_candidate r.model (table_of a.model)

is_refused : ℕ → String → Bool
is_refused r s = let a = propagated (model_of s) in eqb a.refusal r && eqb a.passes 0

-- a solver line read onto fresh values, then closing
closing : Model → String → Closed
closing m s =
    let values : List ℕ = replicate (variable_count m) 0 in
    closed m (line_read fresh_reading (bytes s) values).reading (values_after fresh_reading (bytes s) values)

closes_as : Model → String → ℕ → List ℕ → Bool
closes_as m s r groups =
    let c = closing m s in
    eqb c.refusal r && same c.groups (groups ++ replicate (256 - length groups) 0)

-- ---- A: the sheet, 2 passes, and the listing of seventeen clauses byte for byte

pub sheet_a : String
sheet_a = "   1   3   2   1\n   2   1   1   1   1   1   1\n   2   2   0   3   1   1   0\n   3   2   1   2\n"

listing_a : String
listing_a = "p cnf 8 17\n1 2 -5 0\n-2 5 0\n1 -6 0\n-1 5 0\n2 -6 0\n-1 -2 6 0\n5 0\n-6 0\n3 4 -7 0\n-4 7 0\n3 -8 0\n-3 7 0\n4 -8 0\n-3 -4 8 0\n7 0\n-1 3 0\n-2 4 0\n"

clauses_a : List (List Literal)
clauses_a =
    (Pos 1 ∷ Pos 2 ∷ Neg 5 ∷ [])
    ∷ (Neg 2 ∷ Pos 5 ∷ [])
    ∷ (Pos 1 ∷ Neg 6 ∷ [])
    ∷ (Neg 1 ∷ Pos 5 ∷ [])
    ∷ (Pos 2 ∷ Neg 6 ∷ [])
    ∷ (Neg 1 ∷ Neg 2 ∷ Pos 6 ∷ [])
    ∷ (Pos 5 ∷ [])
    ∷ (Neg 6 ∷ [])
    ∷ (Pos 3 ∷ Pos 4 ∷ Neg 7 ∷ [])
    ∷ (Neg 4 ∷ Pos 7 ∷ [])
    ∷ (Pos 3 ∷ Neg 8 ∷ [])
    ∷ (Neg 3 ∷ Pos 7 ∷ [])
    ∷ (Pos 4 ∷ Neg 8 ∷ [])
    ∷ (Neg 3 ∷ Neg 4 ∷ Pos 8 ∷ [])
    ∷ (Pos 7 ∷ [])
    ∷ (Neg 1 ∷ Pos 3 ∷ [])
    ∷ (Neg 2 ∷ Pos 4 ∷ [])
    ∷ []

example_a : Bool
example_a =
    let m = settled sheet_a in
    settles_in 2 sheet_a
    && same (listing m) (bytes listing_a)
    && same (block_text m 1) (bytes "1 2 -5 0\n-2 5 0\n1 -6 0\n-1 5 0\n2 -6 0\n-1 -2 6 0\n5 0\n-6 0\n")
    && same (block_text m 2) (bytes "3 4 -7 0\n-4 7 0\n3 -8 0\n-3 7 0\n4 -8 0\n-3 -4 8 0\n7 0\n")
    && same (block_text m 3) (bytes "-1 3 0\n-2 4 0\n")
    && list_all (λ b. eqb (block_refusal m b limits.block) 0) (range 0 4)
    && reads (listing m) 8 17 clauses_a
    && same_clauses (clauses m) clauses_a

-- ---- B: four solutions, and one read back. C: refusal 28

example_b : Bool
example_b =
    eqb (length (solutions (model_of sheet_a))) 4
    && closes_as (settled sheet_a) "v 1 -2 3 -4 5 -6 7 -8 0" 0 (1 ∷ 1 ∷ [])

example_c : Bool
example_c = closes_as (settled sheet_a) "v 1 -2 3 -4 -5 -6 7 -8 0" 28 []

-- ---- D: refusal 21

example_d : Bool
example_d = is_refused 21 "   1   2   1   0\n   2   1   2   2   1   0\n"

-- ---- E: marks 2 0, limits 1 1, 2 passes, `p cnf 0 0`

sheet_e : String
sheet_e = "   1   2   1   0\n   2   1   0   1   2   1\n"

example_e : Bool
example_e =
    settles_in 2 sheet_e
    && same_table (table_of (settled sheet_e)) (record { fixed = 1; possible = 1; low = 1; high = 1 } ∷ [])
    && same (listing (settled sheet_e)) (bytes "p cnf 0 0\n")

-- ---- F: settles in 2 passes, `p cnf 12 30`, no solution

pub sheet_f : String
sheet_f = "   1   2   6   3\n   2   1   1   1   1   1\n   2   2   1   1   1   1\n   2   3   1   1   1   1\n   2   4   0   0   1   1\n   2   5   0   0   1   1\n   2   6   0   0   1   1\n   3   3   4   1   2\n   3   3   5   1   3\n   3   3   6   2   3\n"

example_f : Bool
example_f =
    settles_in 2 sheet_f
    && same (header_text (settled sheet_f)) (bytes "p cnf 12 30\n")
    && eqb (length (clauses (settled sheet_f))) 30
    && eqb (length (solutions (model_of sheet_f))) 0

-- ---- G and H: T and A

example_g : Bool
example_g = eqb (tree_clause_count 3) 16 && eqb (tree_output_count 3) 5

example_h : Bool
example_h = eqb (tree_clause_count 32) 1312 && eqb (tree_output_count 32) 160

-- ---- I: 3 passes, 2 with the lines exchanged, the same table

sheet_i : String
sheet_i = "   1   1   3   2\n   2   1   0   1   1\n   2   2   0   1   1\n   2   3   0   1   0\n   3   2   1   2\n   3   2   2   3\n"

sheet_i_exchanged : String
sheet_i_exchanged = "   1   1   3   2\n   2   1   0   1   1\n   2   2   0   1   1\n   2   3   0   1   0\n   3   2   2   3\n   3   2   1   2\n"

example_i : Bool
example_i =
    settles_in 3 sheet_i && settles_in 2 sheet_i_exchanged
    && same_table (table_of (settled sheet_i)) (table_of (settled sheet_i_exchanged))

-- ---- the table

pub starred_table : Bool
starred_table = list_all (λ b. b) (example_a ∷ example_b ∷ example_c ∷ example_d ∷ example_e ∷ example_f ∷ example_g ∷ example_h ∷ example_i ∷ [])

pub starred : T starred_table
unfolding defs bytes same same_literal same_clauses reads model_of settled settles_in is_refused closing closes_as sheet_a listing_a clauses_a example_a example_b example_c example_d sheet_e example_e sheet_f example_f example_g example_h sheet_i sheet_i_exchanged example_i starred_table
starred = tt

-- ---- and over every list of groups: B's four solutions are all there are, and F has none

is_whole : Model → Bool
is_whole m = in_range m && leb m.s (length m.groups)

every_solution : (m : Model) → T (is_whole m) → (l : List (List ℕ)) → solutions m ≡ l → (d : List ℕ) → T (is_solution m d) → Memᴰ d l
unfolding is_whole
every_solution m w l e d h =
    let r = and_left (in_range m) (leb m.s (length m.groups)) w in
    let k = leb→le m.s (length m.groups) (and_right (in_range m) (leb m.s (length m.groups)) w) in
    rw e at (solution_listed m r k d h)

pub four_solutions : List (List ℕ)
four_solutions = (1 ∷ 1 ∷ []) ∷ (1 ∷ 3 ∷ []) ∷ (2 ∷ 2 ∷ []) ∷ (2 ∷ 3 ∷ []) ∷ []

pub all_of_b : (d : List ℕ) → T (is_solution (model_of sheet_a) d) → Memᴰ d four_solutions
unfolding defs bytes model_of sheet_a four_solutions is_whole
all_of_b d h = every_solution (model_of sheet_a) tt four_solutions refl d h

pub none_of_f : (d : List ℕ) → T (is_solution (model_of sheet_f) d) → ⊥
unfolding defs bytes model_of sheet_f is_whole
none_of_f d h = Memᴰ.not-nil (every_solution (model_of sheet_f) tt [] refl d h)

-- ---- the traps in the printed rules, one entrant each: the settled marks (fixed, possible) of each group

settles_as : String → List ℕ → List ℕ → Bool
settles_as s fixed possible =
    same (map (λ g. g.fixed) (table_of (settled s))) fixed && same (map (λ g. g.possible) (table_of (settled s))) possible

-- H = F less G, all open: H stays open, since only those fixed in G may go
open_difference : Bool
open_difference = settles_as "   1   1   3   1\n   2   1   0   1   1\n   2   2   0   1   1\n   2   3   0   1   1\n   3   5   1   2   3\n" (0 ∷ 0 ∷ 0 ∷ []) (1 ∷ 1 ∷ 1 ∷ [])

-- H = F less G: fixed in F, impossible in H, hence fixed in G
fixed_difference : Bool
fixed_difference = settles_as "   1   1   3   1\n   2   1   0   1   0\n   2   2   0   1   2\n   2   3   0   1   1\n   3   5   1   2   3\n" (0 ∷ 1 ∷ 1 ∷ []) (0 ∷ 1 ∷ 1 ∷ [])

-- H = F1 ∪ F2: fixed in H, impossible in F1, hence fixed in F2, which the long clause alone says
long_union : Bool
long_union = settles_as "   1   1   3   1\n   2   1   0   1   2\n   2   2   0   1   0\n   2   3   0   1   1\n   3   6   2   1   2   3\n" (1 ∷ 0 ∷ 1 ∷ []) (1 ∷ 0 ∷ 1 ∷ [])

pub trap_table : Bool
trap_table = open_difference && fixed_difference && long_union

pub traps : T trap_table
unfolding defs bytes same model_of settled settles_as open_difference fixed_difference long_union trap_table
traps = tt

-- ---- the limits of each code (request 1), every mark open: the settled low and high of each group

limits_as : String → List ℕ → List ℕ → Bool
limits_as s low high = same (map (λ g. g.low) (table_of (settled s))) low && same (map (λ g. g.high) (table_of (settled s))) high

equal_limits : Bool
equal_limits =
    limits_as "   1   3   2   1\n   2   1   1   3   1   1   1\n   2   2   0   2   1   1   1\n   3   1   1   2\n" (1 ∷ 1 ∷ []) (2 ∷ 2 ∷ [])
    && limits_as "   1   3   2   1\n   2   1   0   2   1   1   1\n   2   2   1   3   1   1   1\n   3   1   1   2\n" (1 ∷ 1 ∷ []) (2 ∷ 2 ∷ [])

-- F within G, and G's own limits that F may keep within
within_limits : Bool
within_limits =
    limits_as "   1   3   2   1\n   2   1   1   3   1   1   1\n   2   2   0   2   1   1   1\n   3   2   1   2\n" (1 ∷ 1 ∷ []) (2 ∷ 2 ∷ [])
    && limits_as "   1   3   2   1\n   2   1   0   2   1   1   1\n   2   2   1   3   1   1   1\n   3   2   1   2\n" (0 ∷ 1 ∷ []) (2 ∷ 3 ∷ [])

both_limits : Bool
both_limits =
    limits_as "   1   3   3   1\n   2   1   1   3   1   1   1\n   2   2   0   2   1   1   1\n   2   3   0   3   1   1   1\n   3   3   1   2   3\n" (1 ∷ 1 ∷ 1 ∷ []) (2 ∷ 2 ∷ 3 ∷ [])
    && limits_as "   1   3   3   1\n   2   1   1   3   1   1   1\n   2   2   0   3   1   1   1\n   2   3   0   2   1   1   1\n   3   3   1   2   3\n" (1 ∷ 1 ∷ 1 ∷ []) (2 ∷ 3 ∷ 2 ∷ [])

-- H = F less G: G's limits neither give nor take
less_limits : Bool
less_limits = limits_as "   1   3   3   1\n   2   1   1   3   1   1   1\n   2   2   0   2   1   1   1\n   2   3   0   1   1   1   1\n   3   5   1   2   3\n" (1 ∷ 1 ∷ 0 ∷ []) (2 ∷ 2 ∷ 1 ∷ [])

-- H = F ∪ G, and H = F1 ∪ F2 ∪ F3: into H and out of it; and the sum
either_limits : Bool
either_limits =
    limits_as "   1   3   3   1\n   2   1   0   2   1   1   1\n   2   2   1   3   1   1   1\n   2   3   0   3   1   1   1\n   3   4   1   2   3\n" (1 ∷ 1 ∷ 0 ∷ []) (2 ∷ 2 ∷ 2 ∷ [])
    && limits_as "   1   3   3   1\n   2   1   0   3   1   1   1\n   2   2   0   1   1   1   1\n   2   3   0   1   1   1   1\n   3   4   1   2   3\n" (0 ∷ 0 ∷ 0 ∷ []) (2 ∷ 1 ∷ 1 ∷ [])

union_of_three_limits : Bool
union_of_three_limits =
    limits_as "   1   4   4   1\n   2   1   0   2   1   1   1   1\n   2   2   0   4   1   1   1   1\n   2   3   0   4   1   1   1   1\n   2   4   1   4   1   1   1   1\n   3   6   3   1   2   3   4\n" (1 ∷ 0 ∷ 0 ∷ 1 ∷ []) (2 ∷ 2 ∷ 2 ∷ 2 ∷ [])
    && limits_as "   1   4   4   1\n   2   1   0   4   1   1   1   1\n   2   2   0   1   1   1   1   1\n   2   3   0   1   1   1   1   1\n   2   4   0   1   1   1   1   1\n   3   6   3   1   2   3   4\n" (0 ∷ 0 ∷ 0 ∷ 0 ∷ []) (3 ∷ 1 ∷ 1 ∷ 1 ∷ [])

-- 21 by the limits alone: two within at most one
no_room : Bool
no_room = is_refused 21 "   1   3   2   1\n   2   1   2   3   1   1   1\n   2   2   0   1   1   1   1\n   3   2   1   2\n"

pub limit_table : Bool
limit_table = equal_limits && within_limits && both_limits && less_limits && either_limits && union_of_three_limits && no_room

pub limit_examples : T limit_table
unfolding defs bytes same model_of settled is_refused limits_as equal_limits within_limits both_limits less_limits either_limits union_of_three_limits no_room limit_table
limit_examples = tt

-- ---- filling (request 2): the four draws of A, with words past s; what is no draw, an entrant past n included; 30 before 26; five open entrants

fills_as : Model → List ℕ → ℕ → ℕ → List ℕ → Bool
fills_as m d room r values =
    let before : List ℕ = replicate room 7 in
    eqb (fill_refusal m d before) r && same (filled_values m d before) values

four_filled : Bool
four_filled =
    let m = settled sheet_a in
    fills_as m (1 ∷ 1 ∷ []) 8 0 (1 ∷ 2 ∷ 1 ∷ 2 ∷ 1 ∷ 2 ∷ 1 ∷ 2 ∷ [])
    && fills_as m (2 ∷ 2 ∷ []) 8 0 (2 ∷ 1 ∷ 2 ∷ 1 ∷ 1 ∷ 2 ∷ 1 ∷ 2 ∷ [])
    && fills_as m (1 ∷ 3 ∷ []) 8 0 (1 ∷ 2 ∷ 1 ∷ 1 ∷ 1 ∷ 2 ∷ 1 ∷ 1 ∷ [])
    && fills_as m (2 ∷ 3 ∷ 9 ∷ []) 8 0 (2 ∷ 1 ∷ 1 ∷ 1 ∷ 1 ∷ 2 ∷ 1 ∷ 1 ∷ [])

not_filled : Bool
not_filled =
    let m = settled sheet_a in
    fills_as m (1 ∷ 2 ∷ []) 2 30 (7 ∷ 7 ∷ []) && fills_as m (1 ∷ 9 ∷ []) 8 30 (replicate 8 7) && fills_as m (1 ∷ []) 8 30 (replicate 8 7)
    && fills_as m (1 ∷ 1 ∷ []) 7 26 (replicate 7 7) && fills_as (model_of sheet_e) (1 ∷ []) 0 22 []

-- two of five: the halves of two and of three count one each
five_filled : Bool
five_filled =
    fills_as (settled "   1   5   1   0\n   2   1   1   4   1   1   1   1   1\n") (18 ∷ []) 17 0
    (2 ∷ 1 ∷ 2 ∷ 2 ∷ 1 ∷ 1 ∷ 2 ∷ 1 ∷ 2 ∷ 1 ∷ 2 ∷ 2 ∷ 1 ∷ 1 ∷ 2 ∷ 2 ∷ 2 ∷ [])

pub fill_table : Bool
fill_table = four_filled && not_filled && five_filled

pub fillings : T fill_table
unfolding defs bytes same model_of settled sheet_a sheet_e fills_as four_filled not_filled five_filled fill_table
fillings = tt

-- ---- the printed steps (request 4) at three places of the root of a tree of three: C has one output, 1; D has two, 4 and 5; N has three, 6 to 8

root_of_three : Node
root_of_three = record { c = 1; a = 1; d = 4; b = 2; n = 6 }

tree_of_three : nodes (shape 3) 1 4 ≡ record { c = 2; a = 1; d = 3; b = 1; n = 4 } ∷ root_of_three ∷ []
unfolding defs root_of_three
tree_of_three = refl

-- up is left out, since N_0 is true
first_place : (formed 0 0 ≡ record { up = record { c = Neg 0; d = Neg 0; n = Pos 0 }; down = record { c = Pos 1; d = Pos 1; n = Neg 1 } })
    × (put_in root_of_three 0 0 ≡ (Fails ∷ Fails ∷ Holds ∷ []) ∷ (Open (Pos 1) ∷ Open (Pos 4) ∷ Open (Neg 6) ∷ []) ∷ [])
    × (dropped root_of_three 0 0 ≡ (Pos 1 ∷ Pos 4 ∷ Neg 6 ∷ []) ∷ [])
unfolding defs root_of_three
first_place = (refl, refl, refl)

-- D_0 is true and C_2 false: either clause loses a literal
edge : (formed 1 0 ≡ record { up = record { c = Neg 1; d = Neg 0; n = Pos 1 }; down = record { c = Pos 2; d = Pos 1; n = Neg 2 } })
    × (put_in root_of_three 1 0 ≡ (Open (Neg 1) ∷ Fails ∷ Open (Pos 6) ∷ []) ∷ (Fails ∷ Open (Pos 4) ∷ Open (Neg 7) ∷ []) ∷ [])
    × (dropped root_of_three 1 0 ≡ (Neg 1 ∷ Pos 6 ∷ []) ∷ (Pos 4 ∷ Neg 7 ∷ []) ∷ [])
unfolding defs root_of_three
edge = (refl, refl, refl)

-- down is left out, since N_4 is false
last_place : (formed 1 2 ≡ record { up = record { c = Neg 1; d = Neg 2; n = Pos 3 }; down = record { c = Pos 2; d = Pos 3; n = Neg 4 } })
    × (put_in root_of_three 1 2 ≡ (Open (Neg 1) ∷ Open (Neg 5) ∷ Open (Pos 8) ∷ []) ∷ (Fails ∷ Fails ∷ Holds ∷ []) ∷ [])
    × (dropped root_of_three 1 2 ≡ (Neg 1 ∷ Neg 5 ∷ Pos 8 ∷ []) ∷ [])
unfolding defs root_of_three
last_place = (refl, refl, refl)

-- ---- the three published DIMACS samples, as the DIMACS reader reads them

dimacs1993 : Bool
dimacs1993 =
    reads (bytes "c Example CNF format file\nc\np cnf 4 3\n1 3 -4 0\n4 0 2\n-3 0\n") 4 3
    ((Pos 1 ∷ Pos 3 ∷ Neg 4 ∷ []) ∷ (Pos 4 ∷ []) ∷ (Pos 2 ∷ Neg 3 ∷ []) ∷ [])

simple : Bool
simple =
    reads (bytes "c  simple_v3_c2.cnf\nc\np cnf 3 2\n1 -3 0\n2 3 -1 0\n") 3 2
    ((Pos 1 ∷ Neg 3 ∷ []) ∷ (Pos 2 ∷ Pos 3 ∷ Neg 1 ∷ []) ∷ [])

competition : Bool
competition =
    reads (bytes "c\nc start with comments\nc\nc\np cnf 5 3\n1 -5 4 0\n-1 5 3 4 0\n-3 -4 0\n") 5 3
    ((Pos 1 ∷ Neg 5 ∷ Pos 4 ∷ []) ∷ (Neg 1 ∷ Pos 5 ∷ Pos 3 ∷ Pos 4 ∷ []) ∷ (Neg 3 ∷ Neg 4 ∷ []) ∷ [])

pub sample_table : Bool
sample_table = dimacs1993 && simple && competition

pub samples : T sample_table
unfolding defs bytes same_literal same_clauses reads dimacs1993 simple competition sample_table
samples = tt

-- ---- a model's sheet: the bytes that it was read from; E settled; and a field of four digits, and of five

writes_as : Model → String → Bool
writes_as m s = same (sheet_text m) (bytes s)

union_of_two : String
union_of_two = "   1   1   3   1\n   2   1   0   1   2\n   2   2   0   1   0\n   2   3   0   1   1\n   3   6   2   1   2   3\n"

pub text_table : Bool
text_table =
    writes_as (model_of sheet_a) sheet_a && writes_as (model_of sheet_f) sheet_f && writes_as (model_of union_of_two) union_of_two
    && writes_as (settled sheet_e) "   1   2   1   0\n   2   1   1   1   2   0\n"
    && same (field_text 9999) (bytes "9999") && same (field_text 10000) []

pub texts : T text_table
unfolding defs bytes same model_of settled sheet_a sheet_e sheet_f writes_as union_of_two text_table
texts = tt

-- ---- blank marks (request 3): A's open marks blank in part and altogether; then what is refused, and at which line

-- the refusal and the line of a sheet of these lines
reads_as : List String → ℕ → ℕ → Bool
reads_as ls r line = let a = read_sheet (flat_map bytes ls) in eqb a.refusal r && eqb a.line line

head_a : String
head_a = "   1   3   2   1\n"

first_a : String
first_a = "   2   1   1   1            \n"

second_a : String
second_a = "   2   2   0   3           0\n"

line_a : String
line_a = "   3   2   1   2\n"

blanks_as_ones : Bool
blanks_as_ones =
    reads_as (head_a ∷ first_a ∷ second_a ∷ line_a ∷ []) 0 0
    && same (sheet_text (read_sheet (flat_map bytes (head_a ∷ first_a ∷ second_a ∷ line_a ∷ []))).model) (bytes sheet_a)
    && same (sheet_text (read_sheet (flat_map bytes (head_a ∷ "   2   1   1   1       1    \n" ∷ second_a ∷ line_a ∷ []))).model) (bytes sheet_a)

-- a blank low, high, number and first field of a group line; a tab among the spaces
blank_limits : Bool
blank_limits =
    reads_as (head_a ∷ "   2   1       1            \n" ∷ []) 4 2
    && reads_as (head_a ∷ "   2   1   1                \n" ∷ []) 4 2
    && reads_as (head_a ∷ "   2       1   1            \n" ∷ []) 4 2
    && reads_as (head_a ∷ "       1   1   1            \n" ∷ []) 4 2
    && reads_as (head_a ∷ "   2   1   1   1      \t     \n" ∷ []) 4 2

-- in the head and in constraint lines, whatever the column
blank_elsewhere : Bool
blank_elsewhere =
    reads_as ("   1   3       1\n" ∷ []) 4 1
    && reads_as (head_a ∷ first_a ∷ second_a ∷ "   3   2   1    \n" ∷ []) 4 4
    && reads_as (head_a ∷ first_a ∷ second_a ∷ "   3   6   2   1       2\n" ∷ []) 4 4

-- a line of kind 2 where another one is due, or none; with a field too many, too few; three spaces and five
blank_lines : Bool
blank_lines =
    reads_as (first_a ∷ []) 5 1
    && reads_as (head_a ∷ first_a ∷ second_a ∷ first_a ∷ []) 5 4
    && reads_as (head_a ∷ first_a ∷ second_a ∷ line_a ∷ first_a ∷ []) 5 5
    && reads_as (head_a ∷ "   2   1   1   1                \n" ∷ []) 6 2
    && reads_as (head_a ∷ "   2   1   1   1        \n" ∷ []) 6 2
    && reads_as (head_a ∷ "   2   1   1   1           \n" ∷ []) 3 2
    && reads_as (head_a ∷ "   2   1   1   1             \n" ∷ []) 3 2

pub blank_table : Bool
blank_table = blanks_as_ones && blank_limits && blank_elsewhere && blank_lines

pub blanks : T blank_table
unfolding defs bytes same reads_as sheet_a head_a first_a second_a line_a blanks_as_ones blank_limits blank_elsewhere blank_lines blank_table
blanks = tt

-- ---- two committees (request 5): the combined sheet, either way round; then each refusal, and which comes first

-- the answer of combining, its model as a sheet; that of the zero model is a head of zeros
combines_as : Model → Model → ℕ → String → Bool
combines_as a b r text = let x = combined a b in eqb x.refusal r && writes_as x.model text

no_sheet : String
no_sheet = "   1   0   0   0\n"

men : String
men = "   1   3   2   1\n   2   1   1   3   2   1   1\n   2   2   0   2   1   1   0\n   3   2   1   2\n"

ladies : String
ladies = "   1   3   2   1\n   2   1   0   2   1   2   1\n   2   2   1   3   1   1   1\n   3   1   2   1\n"

both_ways : Bool
both_ways =
    combines_as (model_of men) (model_of ladies) 0
    "   1   3   2   2\n   2   1   1   2   2   2   1\n   2   2   1   2   1   1   0\n   3   2   1   2\n   3   1   2   1\n"
    && combines_as (model_of ladies) (model_of men) 0
    "   1   3   2   2\n   2   1   1   2   2   2   1\n   2   2   1   2   1   1   0\n   3   1   2   1\n   3   2   1   2\n"

-- the model with k lines, all alike, with a count that code 2 does not have and a group past its own
with_lines : Model → ℕ → Model
with_lines m k =
    let l : Constraint = record { code = 2; count = 5; groups = 1 ∷ 2 ∷ replicate 15 9 } in
    record { n = m.n; s = m.s; c = k; groups = m.groups; constraints = replicate k l }

clean_line : Bool
clean_line =
    let l = get_or (combined (model_of men) (with_lines (model_of ladies) 1)).model.constraints 1 zero_constraint in
    eqb l.code 2 && eqb l.count 0 && same l.groups (1 ∷ 2 ∷ replicate 15 0)

-- one group of two entrants, and the sheets of another n, of another s, that bar, that fix, that want more, that want fewer
plain : String
plain = "   1   2   1   0\n   2   1   0   2   1   1\n"

three : String
three = "   1   3   1   0\n   2   1   0   2   1   1   1\n"

twice : String
twice = "   1   2   2   0\n   2   1   0   2   2   1\n   2   2   0   2   1   1\n"

bars : String
bars = "   1   2   1   0\n   2   1   0   2   1   0\n"

fixes : String
fixes = "   1   2   1   0\n   2   1   0   2   1   2\n"

more : String
more = "   1   2   1   0\n   2   1   2   2   1   1\n"

fewer : String
fewer = "   1   2   1   0\n   2   1   0   1   1   1\n"

refused_as : ℕ → Model → Model → Bool
refused_as r a b = combines_as a b r no_sheet && combines_as b a r no_sheet

each_refused : Bool
each_refused =
    refused_as 31 (model_of plain) (model_of three) && refused_as 31 (model_of plain) (model_of twice)
    && refused_as 32 (model_of bars) (model_of fixes) && refused_as 32 (model_of more) (model_of fewer)
    && combines_as (model_of more) (model_of more) 0 more && combines_as (model_of fixes) (model_of plain) 0 fixes

-- bars in group 1 what the men, and the two groups above, fix there
clashing : String
clashing = "   1   3   2   0\n   2   1   0   2   0   1   1\n   2   2   0   3   1   1   1\n"

-- 256 lines in all are fine and 257 are not; 32 before 33, 31 before both, and 20, of lines that name a group 2 where there is one, before 31
in_order : Bool
in_order =
    let m = model_of twice in
    eqb (combined (with_lines m 256) m).refusal 0 && eqb (combined (with_lines m 129) (with_lines m 127)).refusal 0
    && refused_as 33 (with_lines m 256) (with_lines m 1) && refused_as 33 (with_lines m 129) (with_lines m 128)
    && refused_as 32 (with_lines (model_of men) 256) (with_lines (model_of clashing) 1)
    && refused_as 31 (with_lines m 256) (with_lines (model_of clashing) 1)
    && refused_as 20 (with_lines (model_of plain) 1) (model_of three)

pub combine_table : Bool
combine_table = both_ways && clean_line && each_refused && in_order

pub combinings : T combine_table
unfolding defs bytes same model_of writes_as combines_as no_sheet men ladies both_ways with_lines clean_line plain three twice bars fixes more fewer refused_as each_refused clashing in_order combine_table
combinings = tt

-- ---- groups that must not be the same (request 6): X in the listing, and what filling and closing give for it

lists_as : String → String → Bool
lists_as s text = same (listing (settled s)) (bytes text)

-- as many solutions as satisfying assignments, k of each
matching : ℕ → String → Bool
matching k s =
    let m = settled s in
    eqb (length (solutions (model_of s))) k
    && eqb (length (those (λ a. satisfying m (assignment_of a)) (all_tables (variable_count m) 2))) k

-- entrant 1 is open in both groups, 2 in the first, 3 in neither; the first group's counter has the outputs 4 and 5, so X are 6 and 7
teams : String
teams = "   1   3   2   1\n   2   1   0   2   1   1   2\n   2   2   0   3   1   0   2\n   3   7   1   2\n"

after_outputs : Bool
after_outputs =
    let m = settled teams in
    settles_in 2 teams
    && lists_as teams "p cnf 7 14\n1 2 -4 0\n-2 4 0\n1 -5 0\n-1 4 0\n2 -5 0\n-1 -2 5 0\n-5 0\n-1 -3 -6 0\n1 3 -6 0\n-1 3 6 0\n1 -3 6 0\n2 -7 0\n-2 7 0\n6 7 0\n"
    && same (block_text m 2) (bytes "-1 -3 -6 0\n1 3 -6 0\n-1 3 6 0\n1 -3 6 0\n2 -7 0\n-2 7 0\n6 7 0\n")
    && list_all (λ b. eqb (block_refusal m b limits.block) 0) (range 0 3)
    && writes_as (model_of teams) teams

-- its four solutions filled; groups alike are none; read back, and with X of entrant 1 the other way or a team twice refused
teams_filled : Bool
teams_filled =
    let m = settled teams in
    matching 4 teams
    && fills_as m (4 ∷ 5 ∷ []) 7 0 (2 ∷ 2 ∷ 1 ∷ 2 ∷ 2 ∷ 1 ∷ 2 ∷ [])
    && fills_as m (5 ∷ 4 ∷ []) 7 0 (1 ∷ 2 ∷ 2 ∷ 1 ∷ 2 ∷ 1 ∷ 2 ∷ [])
    && fills_as m (6 ∷ 4 ∷ []) 7 0 (2 ∷ 1 ∷ 2 ∷ 1 ∷ 2 ∷ 2 ∷ 1 ∷ [])
    && fills_as m (6 ∷ 5 ∷ []) 7 0 (2 ∷ 1 ∷ 1 ∷ 1 ∷ 2 ∷ 1 ∷ 1 ∷ [])
    && fills_as m (5 ∷ 5 ∷ []) 7 30 (replicate 7 7) && fills_as m (6 ∷ 5 ∷ []) 5 26 (replicate 5 7)
    && closes_as m "v -1 2 3 4 -5 6 7 0" 0 (6 ∷ 5 ∷ []) && closes_as m "v -1 2 3 4 -5 -6 7 0" 28 [] && closes_as m "v 1 -2 3 4 -5 -6 -7 0" 28 []

-- two lines of code 7 and one of code 2 between them: X 13 and 14, then 15 and 16
line_by_line : String
line_by_line = "   1   2   3   3\n   2   1   1   1   1   1\n   2   2   1   1   1   1\n   2   3   0   2   1   1\n   3   7   1   2\n   3   2   1   3\n   3   7   3   2\n"

numbered_by_line : Bool
numbered_by_line =
    settles_in 2 line_by_line
    && lists_as line_by_line "p cnf 16 43\n1 2 -7 0\n-2 7 0\n1 -8 0\n-1 7 0\n2 -8 0\n-1 -2 8 0\n7 0\n-8 0\n3 4 -9 0\n-4 9 0\n3 -10 0\n-3 9 0\n4 -10 0\n-3 -4 10 0\n9 0\n-10 0\n5 6 -11 0\n-6 11 0\n5 -12 0\n-5 11 0\n6 -12 0\n-5 -6 12 0\n11 0\n-1 -3 -13 0\n1 3 -13 0\n-1 3 13 0\n1 -3 13 0\n-2 -4 -14 0\n2 4 -14 0\n-2 4 14 0\n2 -4 14 0\n13 14 0\n-1 5 0\n-2 6 0\n-5 -3 -15 0\n5 3 -15 0\n-5 3 15 0\n5 -3 15 0\n-6 -4 -16 0\n6 4 -16 0\n-6 4 16 0\n6 -4 16 0\n15 16 0\n"
    && eqb (length (solutions (model_of line_by_line))) 4
    && fills_as (settled line_by_line) (1 ∷ 2 ∷ 3 ∷ []) 16 0 (1 ∷ 2 ∷ 2 ∷ 1 ∷ 1 ∷ 1 ∷ 1 ∷ 2 ∷ 1 ∷ 2 ∷ 1 ∷ 1 ∷ 1 ∷ 1 ∷ 1 ∷ 2 ∷ [])

-- an entrant who differs already: no X and no clause, either way round; and between two lines that have X, 7 and 8, then 9 and 10
apart_already : Bool
apart_already =
    settles_in 2 first && lists_as first "p cnf 2 0\n" && matching 4 first
    && settles_in 2 second && lists_as second "p cnf 2 0\n" && matching 4 second
    && settles_in 2 between
    && lists_as between "p cnf 10 22\n3 4 -5 0\n-4 5 0\n3 -6 0\n-3 5 0\n4 -6 0\n-3 -4 6 0\n5 0\n-6 0\n-1 -3 -7 0\n1 3 -7 0\n-1 3 7 0\n1 -3 7 0\n-4 -8 0\n4 8 0\n7 8 0\n-3 -2 -9 0\n3 2 -9 0\n-3 2 9 0\n3 -2 9 0\n4 -10 0\n-4 10 0\n9 10 0\n"
    && fills_as (settled between) (3 ∷ 1 ∷ 2 ∷ []) 10 0 (1 ∷ 1 ∷ 2 ∷ 1 ∷ 1 ∷ 2 ∷ 1 ∷ 2 ∷ 1 ∷ 1 ∷ [])
  where
    first : String
    first = "   1   2   2   1\n   2   1   0   2   2   1\n   2   2   0   2   0   1\n   3   7   1   2\n"

    second : String
    second = "   1   2   2   1\n   2   1   0   2   2   1\n   2   2   0   2   0   1\n   3   7   2   1\n"

    between : String
    between = "   1   2   3   3\n   2   1   0   2   1   2\n   2   2   0   2   1   0\n   2   3   1   1   1   1\n   3   7   1   3\n   3   7   1   2\n   3   7   3   2\n"

pub difference_table : Bool
difference_table = after_outputs && teams_filled && numbered_by_line && apart_already

pub differences : T difference_table
unfolding defs bytes same model_of settled settles_in closing closes_as fills_as writes_as lists_as matching teams after_outputs teams_filled line_by_line numbered_by_line apart_already difference_table
differences = tt

-- ---- the same, settled: where the rule acts and where not, 21, and what a line of code 7 is refused for

-- the settled sets and limits, and the passes
settles_with : ℕ → String → List ℕ → List ℕ → List ℕ → List ℕ → Bool
settles_with p s fixed possible low high = settles_in p s && settles_as s fixed possible && limits_as s low high

-- entrant 1 is fixed in both groups and 2 barred in both; 3 is fixed in the first and hence barred in the second, then barred and hence fixed
opposite_way : Bool
opposite_way =
    settles_with 3 "   1   3   2   1\n   2   1   0   3   2   0   2\n   2   2   0   3   2   0   1\n   3   7   1   2\n" (5 ∷ 1 ∷ []) (5 ∷ 1 ∷ []) (2 ∷ 1 ∷ []) (2 ∷ 1 ∷ [])
    && settles_with 3 "   1   3   2   1\n   2   1   0   3   2   0   2\n   2   2   0   3   2   0   1\n   3   7   2   1\n" (5 ∷ 1 ∷ []) (5 ∷ 1 ∷ []) (2 ∷ 1 ∷ []) (2 ∷ 1 ∷ [])
    && settles_with 3 "   1   3   2   1\n   2   1   0   3   2   0   0\n   2   2   0   3   2   0   1\n   3   7   1   2\n" (1 ∷ 5 ∷ []) (1 ∷ 5 ∷ []) (1 ∷ 2 ∷ []) (1 ∷ 2 ∷ [])
    && settles_with 3 "   1   3   2   1\n   2   1   0   3   2   0   0\n   2   2   0   3   2   0   1\n   3   7   2   1\n" (1 ∷ 5 ∷ []) (1 ∷ 5 ∷ []) (1 ∷ 2 ∷ []) (1 ∷ 2 ∷ [])

-- the rule does not act: 1 is fixed in the first group, and 2 is open in both, fixed in the first, barred there; or the one who is left is open in both
not_yet : Bool
not_yet =
    settles_with 2 "   1   2   2   1\n   2   1   0   2   2   1\n   2   2   0   2   1   1\n   3   7   1   2\n" (1 ∷ 0 ∷ []) (3 ∷ 3 ∷ []) (1 ∷ 0 ∷ []) (2 ∷ 2 ∷ [])
    && settles_with 2 "   1   2   2   1\n   2   1   0   2   2   2\n   2   2   0   2   1   1\n   3   7   1   2\n" (3 ∷ 0 ∷ []) (3 ∷ 3 ∷ []) (2 ∷ 0 ∷ []) (2 ∷ 2 ∷ [])
    && settles_with 2 "   1   2   2   1\n   2   1   0   2   2   0\n   2   2   0   2   1   1\n   3   7   1   2\n" (1 ∷ 0 ∷ []) (1 ∷ 3 ∷ []) (1 ∷ 0 ∷ []) (1 ∷ 2 ∷ [])
    && settles_with 2 one_left (1 ∷ 1 ∷ []) (3 ∷ 3 ∷ []) (1 ∷ 1 ∷ []) (2 ∷ 2 ∷ [])
    && lists_as one_left "p cnf 3 5\n-1 -2 -3 0\n1 2 -3 0\n-1 2 3 0\n1 -2 3 0\n3 0\n" && matching 2 one_left
  where
    one_left : String
    one_left = "   1   2   2   1\n   2   1   0   2   2   1\n   2   2   0   2   2   1\n   3   7   1   2\n"

-- all settled alike: without the line the table is settled as it stands; with it 21, no candidate, and 22 for a block, closing and filling
alike : String
alike = "   1   2   2   1\n   2   1   1   1   2   0\n   2   2   1   1   2   0\n   3   7   1   2\n"

all_alike : Bool
all_alike =
    let m = model_of alike in
    settles_in 1 "   1   2   2   0\n   2   1   1   1   2   0\n   2   2   1   1   2   0\n"
    && is_refused 21 alike && not (is_fixpoint m) && not (is_candidate m (table_of m))
    && eqb (block_refusal m 0 32768) 22 && closes_as m "v 0" 22 [] && fills_as m (1 ∷ 1 ∷ []) 0 22 []

-- alike after a pass: by the group rule; by a line of code 1 before it; and after it, where 2 is barred first and then fixed
alike_later : Bool
alike_later =
    is_refused 21 "   1   2   2   1\n   2   1   1   1   2   1\n   2   2   1   1   2   0\n   3   7   1   2\n"
    && is_refused 21 "   1   2   2   2\n   2   1   0   2   2   2\n   2   2   0   2   2   1\n   3   1   1   2\n   3   7   1   2\n"
    && is_refused 21 "   1   2   2   2\n   2   1   0   2   2   2\n   2   2   0   2   2   1\n   3   7   1   2\n   3   1   1   2\n"

-- code 7 has two groups, 1 to s, not the same; there is no code 8
code_seven : Bool
code_seven =
    reads_as (head_a ∷ first_a ∷ second_a ∷ "   3   7   2   1\n" ∷ []) 0 0
    && reads_as (head_a ∷ first_a ∷ second_a ∷ "   3   7   1\n" ∷ []) 6 4
    && reads_as (head_a ∷ first_a ∷ second_a ∷ "   3   7   1   2   3\n" ∷ []) 6 4
    && reads_as (head_a ∷ first_a ∷ second_a ∷ "   3   8   1   2\n" ∷ []) 6 4
    && reads_as (head_a ∷ first_a ∷ second_a ∷ "   3   7   1   3\n" ∷ []) 7 4
    && reads_as (head_a ∷ first_a ∷ second_a ∷ "   3   7   1   1\n" ∷ []) 9 4

pub opposite_table : Bool
opposite_table = all_alike && alike_later && not_yet && opposite_way && code_seven

pub opposites : T opposite_table
unfolding defs bytes same model_of settled settles_in is_refused closing closes_as settles_as limits_as fills_as reads_as head_a first_a second_a lists_as matching settles_with opposite_way not_yet alike all_alike alike_later code_seven opposite_table
opposites = tt

-- ---- sixty-four entrants (request 7): a block for each node; the most groups; a tree of 64; and entrant 64, the last bit of a word

-- the first group's counter has three leaves and so two blocks, the second group has no counter and no block, the third's counter has two leaves
trees : String
trees = "   1   3   3   2\n   2   1   0   2   1   1   1\n   2   2   0   3   1   1   1\n   2   3   1   1   1   0   1\n   3   7   1   3\n   3   2   1   2\n"

trees_by_block : List String
trees_by_block =
    "p cnf 18 39\n"
    ∷ "2 3 -9 0\n-3 9 0\n2 -10 0\n-2 9 0\n3 -10 0\n-2 -3 10 0\n"
    ∷ "1 9 -11 0\n-9 11 0\n1 10 -12 0\n-10 12 0\n1 -13 0\n-1 11 0\n9 -12 0\n-1 -9 12 0\n10 -13 0\n-1 -10 13 0\n-13 0\n"
    ∷ "7 8 -14 0\n-8 14 0\n7 -15 0\n-7 14 0\n8 -15 0\n-7 -8 15 0\n14 0\n-15 0\n"
    ∷ "-1 -7 -16 0\n1 7 -16 0\n-1 7 16 0\n1 -7 16 0\n2 -17 0\n-2 17 0\n-3 -8 -18 0\n3 8 -18 0\n-3 8 18 0\n3 -8 18 0\n16 17 18 0\n"
    ∷ "-1 4 0\n-2 5 0\n-3 6 0\n"
    ∷ []

-- each block, all of them together, the block above them; a buffer of the root's length, and one a byte shorter
block_by_block : Bool
block_by_block =
    let m = settled trees in
    settles_in 1 trees && eqb (block_count m) 5
    && pairwise same (map (block_text m) (range 0 6)) (map bytes trees_by_block)
    && same (listing m) (flat_map bytes trees_by_block)
    && list_all (λ b. eqb (block_refusal m b limits.block) 0) (range 0 6) && eqb (block_refusal m 6 limits.block) 23
    && eqb (block_refusal m 2 100) 0 && eqb (block_refusal m 2 99) 24

-- nothing but the header: E settled has no counter and no line; nor has a tree of one leaf a block
header_alone : Bool
header_alone =
    let m = settled sheet_e in
    eqb (block_count m) 0 && eqb (block_refusal m 0 limits.block) 0 && eqb (block_refusal m 1 limits.block) 23
    && eqb (length (totalizer_blocks 1 1 2 0 0)) 0

-- a model whose groups are empty
hollow : ℕ → ℕ → Model
hollow n s = record { n = n; s = s; c = 0; groups = replicate s zero_group; constraints = [] }

-- heads alone, where 5 at line 2 is a head that passes; and models
most_groups : Bool
most_groups =
    reads_as ("   1  32 256   0\n" ∷ []) 5 2 && reads_as ("   1  33  96   0\n" ∷ []) 5 2 && reads_as ("   1  64  96   0\n" ∷ []) 5 2
    && reads_as ("   1  32 257   0\n" ∷ []) 7 1 && reads_as ("   1  33  97   0\n" ∷ []) 7 1 && reads_as ("   1  64  97   0\n" ∷ []) 7 1
    && reads_as ("   1  65   1   0\n" ∷ []) 7 1
    && in_range (hollow 32 256) && in_range (hollow 33 96) && in_range (hollow 64 96)
    && not (in_range (hollow 32 257)) && not (in_range (hollow 33 97)) && not (in_range (hollow 64 97)) && not (in_range (hollow 65 1))
    && eqb (propagated (hollow 33 97)).refusal 20 && eqb (block_refusal (hollow 33 97) 0 limits.block) 20

-- the model of a sheet that is written in pieces
piecewise : List String → Model
piecewise ls = (read_sheet (flat_map bytes ls)).model

-- 32 of 64 who are all open: the root's block has 2·33·33 − 2 clauses and 64 units
half : List String
half = "   1  64   1   0\n   2   1  32  32" ∷ replicate 64 "   1" ++ ("\n" ∷ [])

tree_of_sixty_four : Bool
tree_of_sixty_four =
    let a = propagated (piecewise half) in
    let m = a.model in
    eqb (tree_output_count 64) 384 && eqb (tree_clause_count 64) 4800
    && reads_as half 0 0 && eqb a.refusal 0 && eqb a.passes 1
    && same (header_text m) (bytes "p cnf 448 4864\n") && eqb (block_count m) 63
    && same (block_text m 1) (bytes "1 2 -65 0\n-2 65 0\n1 -66 0\n-1 65 0\n2 -66 0\n-1 -2 66 0\n")
    && eqb (length (block_clauses m 63)) 2240
    && eqb (block_refusal m 64 limits.block) 23

-- a group's line of 64 entrants: all before the marks, the mark of entrants 1 to 63, that of entrant 64
of_sixty_four : String → String → String → List String
of_sixty_four start others last = start ∷ replicate 63 others ++ (last ∷ "\n" ∷ [])

-- entrant 64 fixed, barred and open among open ones; and among barred ones fixed, open and open. By the lines the third group fixes 64,
-- since the first is within it; the fifth bars and the sixth fixes 64, the only one who can tell it from the group before
last_entrant : List String
last_entrant =
    ("   1  64   6   3\n" ∷ [])
    ++ of_sixty_four "   2   1   0  64" "   1" "   2"
    ++ of_sixty_four "   2   2   0  64" "   1" "   0"
    ++ of_sixty_four "   2   3   0  64" "   1" "   1"
    ++ of_sixty_four "   2   4   0  64" "   0" "   2"
    ++ of_sixty_four "   2   5   0  64" "   0" "   1"
    ++ of_sixty_four "   2   6   0  64" "   0" "   1"
    ++ ("   3   2   1   3\n" ∷ "   3   7   4   5\n" ∷ "   3   7   5   6\n" ∷ [])

-- the fixed and the possible of each group
marks_as : Model → List ℕ → List ℕ → Bool
marks_as m fixed possible = same (map (λ g. g.fixed) (table_of m)) fixed && same (map (λ g. g.possible) (table_of m)) possible

-- as words: entrant 64 alone, the others, all; read as written, written as read, settled
last_bit : Bool
last_bit =
    let own : ℕ = 9223372036854775808 in
    let others : ℕ = 9223372036854775807 in
    let whole : ℕ = 18446744073709551615 in
    let a = propagated (piecewise last_entrant) in
    reads_as last_entrant 0 0
    && marks_as (piecewise last_entrant) (own ∷ 0 ∷ 0 ∷ own ∷ 0 ∷ 0 ∷ []) (whole ∷ others ∷ whole ∷ own ∷ own ∷ own ∷ [])
    && same (sheet_text (piecewise last_entrant)) (flat_map bytes last_entrant)
    && eqb a.refusal 0 && eqb a.passes 3
    && marks_as a.model (own ∷ 0 ∷ own ∷ own ∷ 0 ∷ own ∷ []) (whole ∷ others ∷ whole ∷ own ∷ 0 ∷ own ∷ [])
    && same (header_text a.model) (bytes "p cnf 189 63\n") && eqb (block_count a.model) 3

-- entrant 64 alone is open: read back, and filled
read_back : Bool
read_back =
    let m = piecewise ("   1  64   1   0\n" ∷ of_sixty_four "   2   1   0   1" "   0" "   1") in
    is_fixpoint m && closes_as m "v 1 0" 0 (9223372036854775808 ∷ []) && closes_as m "v -1 0" 0 (0 ∷ [])
    && fills_as m (9223372036854775808 ∷ []) 1 0 (1 ∷ []) && fills_as m (4611686018427387904 ∷ []) 1 30 (7 ∷ [])

pub wide_table : Bool
wide_table = block_by_block && header_alone && most_groups && tree_of_sixty_four && last_bit && read_back

pub wides : T wide_table
unfolding defs bytes same model_of settled settles_in closing closes_as sheet_e fills_as reads_as trees trees_by_block block_by_block header_alone hollow most_groups piecewise half tree_of_sixty_four of_sixty_four last_entrant marks_as last_bit read_back wide_table
wides = tt
