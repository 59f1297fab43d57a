-- The totalizer, which document 01 calls the counter: "It is a tree: a node of size m ≥ 2 has a left half of size m/2 rounded down and a right half
-- with the rest; order is left half, right half, then the node itself." A node's clauses by the printed steps: formed, put in, dropped.
use Rattle.std.specs.Prelude.{ℕ, zero, suc, ◌+◌, ◌-◌, ◌*◌, ◌/◌, Bool, true, false, cond, List, [], ◌∷◌, ◌++◌, map, leb, ltb}
use Rattle.model.specs.declared.Literal.{Literal}
use Rattle.model.specs.declared.Literal.TheVariants.{Pos, Neg}
use Rattle.model.specs.declared.Term.{Term}
use Rattle.model.specs.declared.Term.TheVariants.{Holds, Fails, Open}
use Rattle.model.specs.declared.Printed.{Printed}
use Rattle.model.specs.declared.Formed.{Formed}
use Rattle.model.specs.declared.Node.{Node}
use Rattle.std.specs.List.{list_any, flat_map}
use Rattle.model.specs.Lists.{range}

-- ---- literals of which some are known

unfoldable pub opposite : Literal → Literal
opposite (Pos v) = Neg v
opposite (Neg v) = Pos v

abbrev pub opposite_term : Term → Term
opposite_term Holds = Fails
opposite_term Fails = Holds
opposite_term (Open l) = Open (opposite l)

abbrev pub holds : Term → Bool
holds Holds = true
holds Fails = false
holds (Open l) = false

abbrev pub literals : List Term → List Literal
literals [] = []
literals (Holds ∷ ts) = literals ts
literals (Fails ∷ ts) = literals ts
literals (Open l ∷ ts) = l ∷ literals ts

-- "A clause with a true literal is left out, a false literal dropped; so too in line clauses": no clause or one
unfoldable pub keep : List Term → List (List Literal)
keep ts = cond (list_any holds ts) [] (literals ts ∷ [])

-- ---- a node's clauses, in the three steps of document 001, section 6.4: node N with children C¹ and C², which document 01 calls C and D, and p and q for α and β

-- First step, both clauses formed: "(¬C¹_α ∨ ¬C²_β ∨ N_γ) ∧ (C¹_(α+1) ∨ C²_(β+1) ∨ ¬N_(γ+1))", where "α + β = γ".
-- 01: "up: (-C_p -D_q N_(p+q))", "down: (C_(p+1) D_(q+1) -N_(p+q+1))"
unfoldable pub up : ℕ → ℕ → Printed
up p q = record { c = Neg p; d = Neg q; n = Pos (p + q) }

unfoldable pub down : ℕ → ℕ → Printed
down p q = record { c = Pos (suc p); d = Pos (suc q); n = Neg (suc (p + q)) }

unfoldable pub formed : ℕ → ℕ → Formed
formed p q = record { up = up p q; down = down p q }

-- Second step, true and false put in: "with C¹_0 = C²_0 = N_0 = 1, and C¹_(|C¹|+1) = C²_(|C²|+1) = N_(|M|+1) = 0".
-- 01: "Index 0 is true, an index above the size is false." Between them stands output i of `size` outputs, numbered from `first` on
abbrev pub output : ℕ → ℕ → ℕ → Term
output first size zero = Holds
output first size (suc i) = cond (ltb i size) (Open (Pos (first + i))) Fails

abbrev pub output_term : ℕ → ℕ → Literal → Term
output_term first size (Pos i) = output first size i
output_term first size (Neg i) = opposite_term (output first size i)

unfoldable pub node_terms : Node → Printed → List Term
node_terms t f = output_term t.c t.a f.c ∷ output_term t.d t.b f.d ∷ output_term t.n (t.a + t.b) f.n ∷ []

unfoldable pub put_in : Node → ℕ → ℕ → List (List Term)
put_in t p q = node_terms t (formed p q).up ∷ node_terms t (formed p q).down ∷ []

-- Third step, what is known dropped, as `keep` has it: "A clause with a true literal is left out, a false literal dropped"
unfoldable pub dropped : Node → ℕ → ℕ → List (List Literal)
dropped t p q = flat_map keep (put_in t p q)

-- "for p = 0..a, within it q = 0..b"
unfoldable pub row_clauses : Node → ℕ → List (List Literal)
row_clauses t p = flat_map (dropped t p) (range 0 (suc t.b))

unfoldable pub node_clauses : Node → List (List Literal)
node_clauses t = flat_map (row_clauses t) (range 0 (suc t.a))

-- ---- the tree

pub data Shape : Type 0 where
  leaf : Shape
  node : Shape → Shape → Shape

-- the tree of size m, by at most `fuel` halvings
unfoldable pub shape_in : ℕ → ℕ → Shape
shape_in zero m = leaf
shape_in (suc fuel) m = let n = node (shape_in fuel (m / 2)) (shape_in fuel (m - m / 2)) in cond (leb m 1) leaf n

unfoldable pub shape : ℕ → Shape
shape m = shape_in m m

abbrev pub leaves : Shape → ℕ
leaves leaf = 1
leaves (node l r) = leaves l + leaves r

-- "A node has m outputs, numbered on"
abbrev pub outputs : Shape → ℕ
outputs leaf = 0
outputs (node l r) = outputs l + outputs r + leaves (node l r)

-- the root's first output, where the leaves' variables start at v and the outputs are numbered from o on: "a leaf's output is its entrant's variable"
abbrev pub root_output : Shape → ℕ → ℕ → ℕ
root_output leaf v o = v
root_output (node l r) v o = o + outputs l + outputs r

-- the node over the halves l and r, its leaves' variables from v on and its outputs from o on
abbrev pub node_over : Shape → Shape → ℕ → ℕ → Node
node_over l r v o = record {
  c = root_output l v o;
  a = leaves l;
  d = root_output r (v + leaves l) (o + outputs l);
  b = leaves r;
  n = o + outputs l + outputs r;
}

-- "order is left half, right half, then the node itself"
unfoldable pub nodes : Shape → ℕ → ℕ → List Node
nodes leaf v o = []
nodes (node l r) v o = nodes l v o ++ nodes r (v + leaves l) (o + outputs l) ++ (node_over l r v o ∷ [])

-- "After the root's clauses: units N_1..N_L, then -N_(U+1)..-N_m", where N starts at `first`
unfoldable pub unit : (ℕ → Literal) → ℕ → ℕ → List Literal
unit sign first i = sign (first + i) ∷ []

unfoldable pub unit_clauses : ℕ → ℕ → ℕ → ℕ → List (List Literal)
unit_clauses first m L U = map (unit Pos first) (range 0 L) ++ map (unit Neg first) (range U (m - U))

-- ---- request 7: "A group's block becomes one block per tree node of size 2 or more, in tree order, the root's with the units"

-- the blocks of a tree, the units after the root's clauses; a leaf has none
unfoldable pub tree_blocks : Shape → ℕ → ℕ → List (List Literal) → List (List (List Literal))
tree_blocks leaf v o units = []
tree_blocks (node l r) v o units =
    map node_clauses (nodes l v o ++ nodes r (v + leaves l) (o + outputs l)) ++ ((node_clauses (node_over l r v o) ++ units) ∷ [])

unfoldable pub totalizer_blocks : ℕ → ℕ → ℕ → ℕ → ℕ → List (List (List Literal))
totalizer_blocks m v o L U = tree_blocks (shape m) v o (unit_clauses (root_output (shape m) v o) m L U)

-- ---- "Tree clauses T(1) = 0, T(m) = T(left) + T(right) + 2(a+1)(b+1) - 2; outputs A(1) = 0, A(m) = m + A(left) + A(right)."

unfoldable pub clause_count_in : ℕ → ℕ → ℕ
clause_count_in zero m = 0
clause_count_in (suc fuel) m =
    let a = m / 2 in
    let b = m - m / 2 in
    let t = clause_count_in fuel a + clause_count_in fuel b + 2 * ((a + 1) * (b + 1)) - 2 in
    cond (leb m 1) 0 t

-- T
unfoldable pub tree_clause_count : ℕ → ℕ
tree_clause_count m = clause_count_in m m

unfoldable pub output_count_in : ℕ → ℕ → ℕ
output_count_in zero m = 0
output_count_in (suc fuel) m =
    let t = m + output_count_in fuel (m / 2) + output_count_in fuel (m - m / 2) in
    cond (leb m 1) 0 t

-- A
unfoldable pub tree_output_count : ℕ → ℕ
tree_output_count m = output_count_in m m
