-- A tree's clauses hold exactly when those of its halves do and its own outputs count its leaves. Assumes nothing.
use mathlib.Core.Path.{◌≡◌, refl, sym, ap, ◌∙◌, subst}
use mathlib.Core.Logic.{◌↔◌}
use mathlib.Core.Bool.{Bool, true, false, cond, beq, ◌&&◌}
use mathlib.Core.List.{List, ◌∷◌}
use Prim.Native.Nat.{ℕ, zero, suc, ◌+◌, ◌-◌, ◌/◌, ◌≤◌, ◌<◌}
use native.Mathlib.Omega.{arith}
use lib.Dec.{T, leb, ltb}
use Rattle.model.specs.Lists.{total, range}
use Rattle.model.specs.Totalizer.{Shape, node, shape, leaves, outputs, nodes, tree_output_count}
use Rattle.model.specs.Close.{truth}
use Rattle.model.specs.Fill.{count}
use Rattle.model.proofs.Lists.{T-ext, beq-refl, beq-eq, every-range, range-every}
use Rattle.encoding_laws.proofs.Truth.{all_true, T_and}
use Rattle.encoding_laws.proofs.Node.{Unary}
use Rattle.encoding_laws.proofs.Tree.{values_from, trues, trues-add, parts, tree-iff}
use Rattle.encoding_laws.proofs.Totalizer.{leaves-shape, shape_one, shape-step}
use Rattle.encoding_laws.proofs.Counts.{outputs-count, output-count-step}
use Rattle.model.specs.Limits.{limits}
use Rattle.encoding_laws.specs.Division.{tree_clauses}
use Rattle.numbering.proofs.Totalizers.{within_word}
use Rattle.solution.specs.Holds.{true_count, output_is, counts_to}

-- ---- counts and outputs

pub count-is : (a : List Bool) (v m : ℕ) → true_count a v m ≡ count (values_from a v m)
unfolding true_count
count-is a v zero = refl
count-is a v (suc m) = go (truth a v) (count-is a (suc v) m)
  where
    go : (b : Bool) → total (λ i. cond (truth a i) 1 0) (range (suc v) m) ≡ count (values_from a (suc v) m)
        → cond b 1 0 + total (λ i. cond (truth a i) 1 0) (range (suc v) m) ≡ count (b ∷ values_from a (suc v) m)
    go true ih = omega arith
    go false ih = omega arith

counts_iff : (a : List Bool) (o m x : ℕ) → T (counts_to a o m x) ↔ Unary a o m x
unfolding counts_to
counts_iff a o m x = (
  λ t i h. beq-eq (truth a (o + i)) (ltb i x) (every-range (output_is a o x) 0 m t i (omega arith) (omega arith)),
  λ u. range-every (output_is a o x) 0 m (λ i l h. subst (λ (b : Bool). T (beq (truth a (o + i)) b)) (u i (omega arith)) (beq-refl (truth a (o + i)))),
)

-- ---- a node

node-holds : (a : List Bool) (l r : Shape) (v o : ℕ)
    → all_true a (tree_clauses (node l r) v o)
    ≡ (all_true a (tree_clauses l v o) && (all_true a (tree_clauses r (v + leaves l) (o + outputs l))
    && counts_to a (o + outputs l + outputs r) (leaves l + leaves r) (true_count a v (leaves l + leaves r))))
unfolding trues
node-holds a l r v o =
    T-ext whole (left && (right && own))
    (λ t. let f = (parts a l r v o).0 ((tree-iff a (node l r) v o).0 t) in
    (T_and left (right && own)).1 (
      (tree-iff a l v o).1 f.0,
      (T_and right own).1 (
        (tree-iff a r w k).1 f.1.0,
        (counts_iff a (k + outputs r) m x).1 (subst (Unary a (k + outputs r) m) (sym counted) f.1.1),
      ),
    ))
    (λ t. let p = (T_and left (right && own)).0 t in
    let q = (T_and right own).0 p.1 in
    (tree-iff a (node l r) v o).1 ((parts a l r v o).1 (
      (tree-iff a l v o).0 p.0,
      ((tree-iff a r w k).0 q.0, subst (Unary a (k + outputs r) m) counted ((counts_iff a (k + outputs r) m x).0 q.1)),
    )))
  where
    w : ℕ
    w = v + leaves l

    k : ℕ
    k = o + outputs l

    m : ℕ
    m = leaves l + leaves r

    x : ℕ
    x = true_count a v m

    whole : Bool
    whole = all_true a (tree_clauses (node l r) v o)

    left : Bool
    left = all_true a (tree_clauses l v o)

    right : Bool
    right = all_true a (tree_clauses r w k)

    own : Bool
    own = counts_to a (k + outputs r) m x

    counted : x ≡ trues a v (leaves l) + trues a w (leaves r)
    counted = count-is a v m ∙ trues-add a v (leaves l) (leaves r)

-- ---- the tree of a size

-- the outputs of the halves, k and j
pub halves : (m k j : ℕ) → m ≤ limits.word → 2 ≤ m → k ≡ cond (leb (m / 2) limits.word) (tree_output_count (m / 2)) 0
    → j ≡ cond (leb (m - m / 2) limits.word) (tree_output_count (m - m / 2)) 0
    → (k ≡ tree_output_count (m / 2)) × (j ≡ tree_output_count (m - m / 2)) × (tree_output_count m ≡ m + k + j)
halves m k j h l p q =
    let a : k ≡ tree_output_count (m / 2) = p ∙ within_word (m / 2) (omega arith) in
    let b : j ≡ tree_output_count (m - m / 2) = q ∙ within_word (m - m / 2) (omega arith) in
    (a, b, omega (arith, output-count-step m l))

pub leaf-holds : (a : List Bool) (m v o : ℕ) → m < 2 → true ≡ all_true a (tree_clauses (shape m) v o)
unfolding tree_clauses nodes
leaf-holds a m v o h = sym (ap (λ (s : Shape). all_true a (tree_clauses s v o)) (shape_one m (omega arith)))

module _ (a : List Bool) (m v o p own : ℕ) (h : 2 ≤ m) (hp : p ≡ o + tree_output_count (m / 2)) (ho : own ≡ p + tree_output_count (m - m / 2)) where
  tree-parts : all_true a (tree_clauses (shape m) v o)
      ≡ (all_true a (tree_clauses (shape (m / 2)) v o) && (all_true a (tree_clauses (shape (m - m / 2)) (v + m / 2) p)
      && counts_to a own m (true_count a v m)))
  tree-parts =
      let e : m / 2 + (m - m / 2) ≡ m = omega arith in
      ap (λ (s : Shape). all_true a (tree_clauses s v o)) (shape-step m h)
      ∙ node-holds a (shape (m / 2)) (shape (m - m / 2)) v o
      ∙ rw (leaves-shape (m / 2) (omega arith), leaves-shape (m - m / 2) (omega arith), outputs-count (m / 2), outputs-count (m - m / 2), e, ← hp, ← ho)

  pub left-fails : (b : Bool) → b ≡ all_true a (tree_clauses (shape (m / 2)) v o) → b ≡ false → false ≡ all_true a (tree_clauses (shape m) v o)
  left-fails b e f = sym (tree-parts ∙ rw (← e, f))

  module _ (b : Bool) (e : b ≡ all_true a (tree_clauses (shape (m / 2)) v o)) (f : b ≡ true) where
    pub right-fails : (c : Bool) → c ≡ all_true a (tree_clauses (shape (m - m / 2)) (v + m / 2) p) → c ≡ false
        → false ≡ all_true a (tree_clauses (shape m) v o)
    right-fails c g k = sym (tree-parts ∙ rw (← e, f, ← g, k))

    pub own-decides : (c : Bool) → c ≡ all_true a (tree_clauses (shape (m - m / 2)) (v + m / 2) p) → c ≡ true
        → (x : ℕ) → x ≡ true_count a v m → (d : Bool) → d ≡ counts_to a own m x → d ≡ all_true a (tree_clauses (shape m) v o)
    own-decides c g k x q d r = r ∙ ap (counts_to a own m) q ∙ sym (tree-parts ∙ rw (← e, f, ← g, k))
