-- The numbers of clauses and outputs are those of document 01's formulas. Assumes nothing.
use mathlib.Core.Path.{◌≡◌, refl, sym, ap, ap₂, ◌∙◌}
use mathlib.Core.Bool.{Bool, true, false, cond, ◌||◌}
use mathlib.Core.List.{List, [], ◌∷◌, ◌++◌, map}
use Prim.Native.Nat.{ℕ, zero, suc, ◌+◌, ◌*◌, ◌-◌, ◌/◌, ◌≤◌, ◌<◌}
use native.Mathlib.Nat.{add-zero, le_refl}
use native.Mathlib.Omega.{arith}
use native.Mathlib.Decide.{dec_le, dec_lt}
use lib.Dec.{leb, ltb, le→leb}
use lib.Arith.{lt→nleb}
use lib.ListN.{length, length-append, length-map}
use Rattle.model.specs.declared.Literal.{Literal}
use Rattle.model.specs.declared.Literal.TheVariants.{Pos, Neg}
use Rattle.model.specs.declared.Term.{Term}
use Rattle.model.specs.declared.Term.TheVariants.{Holds, Fails, Open}
use Rattle.model.specs.declared.Printed.{Printed}
use Rattle.model.specs.declared.Node.{Node}
use Rattle.model.specs.declared.Group.{Group}
use Rattle.model.specs.Lists.{total, range}
use Rattle.model.specs.Model.{group_at}
use Rattle.model.specs.Totalizer.{opposite_term, holds, literals, keep, up, down, formed, output, node_terms, put_in, dropped, row_clauses, node_clauses, Shape, node, shape_in, shape, leaves, outputs, root_output, node_over, nodes, unit, unit_clauses, clause_count_in, tree_clause_count, output_count_in, tree_output_count}
use Rattle.model.specs.Cnf.{open_count, at_least, at_most, counted, first_variable, first_output, group_clause_count}
use Rattle.model.proofs.Lists.{T_true, T_false, length-each, range_length, total_ext, total-add, total_const, total_but_one}
use Rattle.encoding_laws.specs.Division.{tree_clauses, totalizer_clauses, group_clauses}
use Rattle.encoding_laws.proofs.Node.{output_in, output-out}
use Rattle.encoding_laws.proofs.Tree.{tree_node}
use Rattle.encoding_laws.proofs.Totalizer.{shape_in-step, shape_in-one, leaves-shape_in, leaves-shape, shape-step}

-- ---- a node: every clause but two is kept

-- a clause of terms of which none holds is kept
kept : (x y z : Term) → holds x ≡ false → holds y ≡ false → holds z ≡ false → length (keep (x ∷ y ∷ z ∷ [])) ≡ 1
unfolding keep
kept x y z p q r = rw (p, q, r)

left_out : (x y : Term) → length (keep (x ∷ y ∷ Holds ∷ [])) ≡ 0
unfolding keep
left_out x y = go (holds x) (holds y)
  where
    go : (p q : Bool) → length (cond (p || (q || true)) [] (literals (x ∷ y ∷ Holds ∷ []) ∷ [])) ≡ 0
    go true q = refl
    go false true = refl
    go false false = refl

loose-not : (f m p : ℕ) → p ≤ m → holds (opposite_term (output f m p)) ≡ false
loose-not f m zero h = refl
loose-not f m (suc i) h = rw (output_in f m i h)

loose : (f m p : ℕ) → 1 ≤ p → holds (output f m p) ≡ false
loose f m zero h = absurd (omega arith)
loose f m (suc i) h = go (ltb i m)
  where
    go : (b : Bool) → holds (cond b (Open (Pos (f + i))) Fails) ≡ false
    go true = refl
    go false = refl

-- ones in m rows of n, but for one place
square : (f : ℕ → ℕ → ℕ) (m n k l : ℕ) → k < m → l < n → f k l ≡ 0
    → ((p q : ℕ) → p < m → q < n → (p ≡ k → q ≡ l → ⊥) → f p q ≡ 1) → suc (total (λ p. total (f p) (range 0 n)) (range 0 m)) ≡ m * n
square f m n k l hk hl z h =
    total_but_one (λ p. total (f p) (range 0 n)) n k 0 m (omega arith) (omega arith)
    (total_but_one (f k) 1 l 0 n (omega arith) (omega arith) (ap suc z) (λ j a b d. h k j (omega arith) (omega arith) (λ _ e. d e)) ∙ omega arith)
    (λ j a b d. total_const (f j) 1 0 n (λ i a' b'. h j i (omega arith) (omega arith) (λ e _. d e)) ∙ omega arith)

module _ (t : Node) where
  kept_of : Printed → List (List Literal)
  kept_of f = keep (node_terms t f)

  ups : ℕ → ℕ → ℕ
  ups p q = length (kept_of (up p q))

  downs : ℕ → ℕ → ℕ
  downs p q = length (kept_of (down p q))

  ups-count : suc (total (λ p. total (ups p) (range 0 (suc t.b))) (range 0 (suc t.a))) ≡ suc t.a * suc t.b
  unfolding ups kept_of node_terms up
  ups-count =
      square ups (suc t.a) (suc t.b) 0 0 (omega arith) (omega arith) (left_out Fails Fails)
      (λ p q hp hq ne. kept (opposite_term (output t.c t.a p)) (opposite_term (output t.d t.b q)) (output t.n (t.a + t.b) (p + q))
      (loose-not t.c t.a p (omega arith)) (loose-not t.d t.b q (omega arith)) (loose t.n (t.a + t.b) (p + q) (pos p q ne)))
    where
      pos : (p q : ℕ) → (p ≡ 0 → q ≡ 0 → ⊥) → 1 ≤ p + q
      pos zero zero h = absurd (h refl refl)
      pos zero (suc q) h = omega arith
      pos (suc p) q h = omega arith

  downs-count : suc (total (λ p. total (downs p) (range 0 (suc t.b))) (range 0 (suc t.a))) ≡ suc t.a * suc t.b
  unfolding downs kept_of node_terms down
  downs-count =
      square downs (suc t.a) (suc t.b) t.a t.b (omega arith) (omega arith)
      (rw (output-out t.n (t.a + t.b) (t.a + t.b) (le_refl (t.a + t.b)))
      (left_out (output t.c t.a (suc t.a)) (output t.d t.b (suc t.b))))
      (λ p q hp hq ne. kept (output t.c t.a (suc p)) (output t.d t.b (suc q)) (opposite_term (output t.n (t.a + t.b) (suc (p + q))))
      (loose t.c t.a (suc p) (omega arith)) (loose t.d t.b (suc q) (omega arith))
      (loose-not t.n (t.a + t.b) (suc (p + q)) (low p q hp hq ne (dec_lt p t.a) (dec_lt q t.b))))
    where
      low : (p q : ℕ) → p < suc t.a → q < suc t.b → (p ≡ t.a → q ≡ t.b → ⊥) → Dec (p < t.a) → Dec (q < t.b) → p + q < t.a + t.b
      low p q hp hq ne (yes h) k = omega arith
      low p q hp hq ne (no h) (yes k) = omega arith
      low p q hp hq ne (no h) (no k) = absurd (ne (omega arith) (omega arith))

  dropped-length : (p q : ℕ) → length (dropped t p q) ≡ ups p q + downs p q
  unfolding dropped put_in formed ups downs kept_of
  dropped-length p q =
      length-append (kept_of (up p q)) (kept_of (down p q) ++ []) ∙ ap (λ k. ups p q + k) (length-append (kept_of (down p q)) [] ∙ add-zero (downs p q))

  node-total : length (node_clauses t) ≡ total (λ p. total (λ q. ups p q + downs p q) (range 0 (suc t.b))) (range 0 (suc t.a))
  unfolding node_clauses row_clauses
  node-total =
      length-each (row_clauses t) (range 0 (suc t.a))
      ∙ total_ext (λ p. length (row_clauses t p)) (λ p. total (λ q. ups p q + downs p q) (range 0 (suc t.b)))
      (λ p. length-each (dropped t p) (range 0 (suc t.b))
      ∙ total_ext (λ q. length (dropped t p q)) (λ q. ups p q + downs p q) (dropped-length p) (range 0 (suc t.b)))
      (range 0 (suc t.a))

  -- "2(a+1)(b+1) - 2"
  pub node-length : length (node_clauses t) ≡ 2 * (suc t.a * suc t.b) - 2
  node-length =
      let rows = range 0 (suc t.a) in
      let row = range 0 (suc t.b) in
      let split : total (λ p. total (λ q. ups p q + downs p q) row) rows ≡ total (λ p. total (ups p) row) rows + total (λ p. total (downs p) row) rows =
      total_ext (λ p. total (λ q. ups p q + downs p q) row) (λ p. total (ups p) row + total (downs p) row)
      (λ p. total-add (ups p) (downs p) row) rows
      ∙ total-add (λ p. total (ups p) row) (λ p. total (downs p) row) rows in
      omega (arith, node-total, split, ups-count, downs-count)

-- ---- a tree

clause_count_in-step : (f m : ℕ) → 2 ≤ m
    → clause_count_in (suc f) m ≡ clause_count_in f (m / 2) + clause_count_in f (m - m / 2) + 2 * ((m / 2 + 1) * (m - m / 2 + 1)) - 2
unfolding clause_count_in
clause_count_in-step f m h = rw (T_false (leb m 1) (lt→nleb m 1 h))

clause_count_in-one : (f m : ℕ) → m ≤ 1 → clause_count_in f m ≡ 0
unfolding clause_count_in
clause_count_in-one zero m h = refl
clause_count_in-one (suc f) m h = rw (T_true (leb m 1) (le→leb m 1 h))

output_count_in-step : (f m : ℕ) → 2 ≤ m → output_count_in (suc f) m ≡ m + output_count_in f (m / 2) + output_count_in f (m - m / 2)
unfolding output_count_in
output_count_in-step f m h = rw (T_false (leb m 1) (lt→nleb m 1 h))

output_count_in-one : (f m : ℕ) → m ≤ 1 → output_count_in f m ≡ 0
unfolding output_count_in
output_count_in-one zero m h = refl
output_count_in-one (suc f) m h = rw (T_true (leb m 1) (le→leb m 1 h))

node-total-length : (l r : Shape) (v o : ℕ)
    → length (tree_clauses (node l r) v o)
    ≡ length (tree_clauses l v o) + length (tree_clauses r (v + leaves l) (o + outputs l)) + (2 * (suc (leaves l) * suc (leaves r)) - 2)
node-total-length l r v o =
    let w : ℕ = v + leaves l in
    let k : ℕ = o + outputs l in
    ap length (tree_node l r v o)
    ∙ length-append (tree_clauses l v o ++ tree_clauses r w k) (node_clauses (node_over l r v o))
    ∙ ap₂ (λ (x y : ℕ). x + y) (length-append (tree_clauses l v o) (tree_clauses r w k)) (node-length (node_over l r v o))

arrange : (x y a b : ℕ) → x + y + (2 * (suc a * suc b) - 2) ≡ x + y + 2 * ((a + 1) * (b + 1)) - 2
arrange x y a b = omega arith

length_tree_in : (f m v o : ℕ) → m ≤ f → length (tree_clauses (shape_in f m) v o) ≡ clause_count_in f m
unfolding tree_clauses nodes
length_tree_in zero m v o h = rw (shape_in-one zero m (omega arith), clause_count_in-one zero m (omega arith))
length_tree_in (suc f) m v o h =
    go (dec_le 2 m) (λ v o l. length_tree_in f (m / 2) v o l) (λ v o l. length_tree_in f (m - m / 2) v o l)
  where
    go : Dec (2 ≤ m)
        → ((v o : ℕ) → m / 2 ≤ f → length (tree_clauses (shape_in f (m / 2)) v o) ≡ clause_count_in f (m / 2))
        → ((v o : ℕ) → m - m / 2 ≤ f → length (tree_clauses (shape_in f (m - m / 2)) v o) ≡ clause_count_in f (m - m / 2))
        → length (tree_clauses (shape_in (suc f) m) v o) ≡ clause_count_in (suc f) m
    go (yes h2) l r =
        let a = shape_in f (m / 2) in
        let b = shape_in f (m - m / 2) in
        let ea : leaves (shape_in f (m / 2)) ≡ m / 2 = leaves-shape_in f (m / 2) (omega arith) (omega arith) in
        let eb : leaves (shape_in f (m - m / 2)) ≡ m - m / 2 = leaves-shape_in f (m - m / 2) (omega arith) (omega arith) in
        rw (shape_in-step f m h2, clause_count_in-step f m h2)
        (node-total-length a b v o
        ∙ rw (l v o (omega arith), r (v + leaves a) (o + outputs a) (omega arith), ea, eb)
        (arrange (clause_count_in f (m / 2)) (clause_count_in f (m - m / 2)) (m / 2) (m - m / 2)))
    go (no h2) l r = rw (shape_in-one (suc f) m (omega arith), clause_count_in-one (suc f) m (omega arith))

-- T(m) is the number of the tree's clauses, A(m) that of its outputs
pub tree_length : (m v o : ℕ) → length (tree_clauses (shape m) v o) ≡ tree_clause_count m
unfolding shape tree_clause_count
tree_length m v o = length_tree_in m m v o (le_refl m)

outputs_in : (f m : ℕ) → m ≤ f → outputs (shape_in f m) ≡ output_count_in f m
outputs_in zero m h = rw (shape_in-one zero m (omega arith), output_count_in-one zero m (omega arith))
outputs_in (suc f) m h = go (dec_le 2 m) (outputs_in f (m / 2)) (outputs_in f (m - m / 2))
  where
    go : Dec (2 ≤ m) → (m / 2 ≤ f → outputs (shape_in f (m / 2)) ≡ output_count_in f (m / 2))
        → (m - m / 2 ≤ f → outputs (shape_in f (m - m / 2)) ≡ output_count_in f (m - m / 2)) → outputs (shape_in (suc f) m) ≡ output_count_in (suc f) m
    go (yes h2) l r =
        rw (shape_in-step f m h2, output_count_in-step f m h2)
        (omega (
          arith,
          l (omega arith),
          r (omega arith),
          leaves-shape_in f (m / 2) (omega arith) (omega arith),
          leaves-shape_in f (m - m / 2) (omega arith) (omega arith),
        ))
    go (no h2) l r = rw (shape_in-one (suc f) m (omega arith), output_count_in-one (suc f) m (omega arith))

pub outputs-count : (m : ℕ) → outputs (shape m) ≡ tree_output_count m
unfolding shape tree_output_count
outputs-count m = outputs_in m m (le_refl m)

-- "T(m) = T(left) + T(right) + 2(a+1)(b+1) - 2", "A(m) = m + A(left) + A(right)"; both are 0 for a size of 1
pub clause-count-step : (m : ℕ) → 2 ≤ m
    → tree_clause_count m ≡ tree_clause_count (m / 2) + tree_clause_count (m - m / 2) + 2 * ((m / 2 + 1) * (m - m / 2 + 1)) - 2
clause-count-step m h =
    let a = shape (m / 2) in
    let b = shape (m - m / 2) in
    sym (tree_length m 0 0)
    ∙ ap (λ (s : Shape). length (tree_clauses s 0 0)) (shape-step m h)
    ∙ node-total-length a b 0 0
    ∙ rw (
      tree_length (m / 2) 0 0,
      tree_length (m - m / 2) (0 + leaves a) (0 + outputs a),
      leaves-shape (m / 2) (omega arith),
      leaves-shape (m - m / 2) (omega arith),
    )
    (arrange (tree_clause_count (m / 2)) (tree_clause_count (m - m / 2)) (m / 2) (m - m / 2))

pub output-count-step : (m : ℕ) → 2 ≤ m → tree_output_count m ≡ m + tree_output_count (m / 2) + tree_output_count (m - m / 2)
output-count-step m h =
    sym (outputs-count m)
    ∙ ap outputs (shape-step m h)
    ∙ omega (
      arith,
      outputs-count (m / 2),
      outputs-count (m - m / 2),
      leaves-shape (m / 2) (omega arith),
      leaves-shape (m - m / 2) (omega arith),
    )

pub count-one : (tree_clause_count 1 ≡ 0) × (tree_output_count 1 ≡ 0)
unfolding tree_clause_count clause_count_in tree_output_count output_count_in
count-one = (refl, refl)

-- ---- a totalizer: "T(m) + L + m - U"

pub units_length : (first m L U : ℕ) → length (unit_clauses first m L U) ≡ L + (m - U)
unfolding unit_clauses
units_length first m L U =
    length-append (map (unit Pos first) (range 0 L)) (map (unit Neg first) (range U (m - U)))
    ∙ ap₂ (λ (x y : ℕ). x + y) (length-map (range 0 L) (unit Pos first) ∙ range_length 0 L)
    (length-map (range U (m - U)) (unit Neg first) ∙ range_length U (m - U))

pub totalizer_length : (m v o L U : ℕ) → length (totalizer_clauses m v o L U) ≡ tree_clause_count m + L + (m - U)
unfolding totalizer_clauses
totalizer_length m v o L U =
    length-append (tree_clauses (shape m) v o) (unit_clauses (root_output (shape m) v o) m L U)
    ∙ omega (arith, tree_length m v o, units_length (root_output (shape m) v o) m L U)

pub group-length : (t : List Group) (g : ℕ) → length (group_clauses t g) ≡ group_clause_count (group_at t g)
unfolding group_clauses group_clause_count
group-length t g = go (counted (group_at t g))
  where
    r : Group
    r = group_at t g

    go : (b : Bool)
        → length (cond b (totalizer_clauses (open_count r) (first_variable t g) (first_output t g) (at_least r) (at_most r)) [])
        ≡ cond b (tree_clause_count (open_count r) + at_least r + (open_count r - at_most r)) 0
    go true = totalizer_length (open_count r) (first_variable t g) (first_output t g) (at_least r) (at_most r)
    go false = refl
