-- A totalizer's clauses hold exactly when its outputs are the unary counts and the number of true leaves is in the limits. Assumes nothing.
use mathlib.Core.Path.{◌≡◌, refl, sym, ap₂, ◌∙◌, subst}
use mathlib.Core.Logic.{◌↔◌}
use mathlib.Core.Bool.{Bool, true, false, not, ◌||◌}
use mathlib.Core.List.{List, ◌++◌, map}
use Prim.Native.Nat.{ℕ, zero, suc, ◌+◌, ◌-◌, ◌/◌, ◌≤◌, ◌<◌}
use native.Mathlib.Nat.{le_refl}
use native.Mathlib.Omega.{arith}
use native.Mathlib.Decide.{dec_le}
use lib.Dec.{T, leb, ltb, le→leb, lt→ltb, ltb→lt, T_not}
use lib.Arith.{lt→nleb, le→nltb}
use Rattle.model.specs.declared.Literal.{Literal}
use Rattle.model.specs.declared.Literal.TheVariants.{Pos, Neg}
use Rattle.model.specs.Lists.{range}
use Rattle.model.specs.Totalizer.{node_clauses, leaf, node, shape_in, shape, leaves, outputs, root_output, unit, unit_clauses}
use Rattle.encoding_laws.specs.Division.{tree_clauses, totalizer_clauses}
use Rattle.model.specs.Close.{truth, literal_true, clause_true}
use Rattle.model.specs.Fill.{count}
use Rattle.model.proofs.Lists.{T_true, T_false, every_map, every-range, range-every}
use Rattle.encoding_laws.proofs.Truth.{all_true, all_true-append}
use Rattle.encoding_laws.proofs.Node.{Unary}
use Rattle.encoding_laws.proofs.Tree.{tree_node, Filled, values_from, trues, trues-le, filled-root, tree-iff}

T-or : (b : Bool) → T (b || false) ↔ T b
T-or true = (λ t. t, λ t. t)
T-or false = (λ t. t, λ t. t)

-- ---- the root's units, of m outputs from `first` on, x of them true

module _ (a : List Bool) (first m L U x : ℕ) (h_l : L ≤ m) (h_u : U ≤ m) (hx : x ≤ m) (u : Unary a first m x) where
  units_true : (sign : ℕ → Literal) (i k : ℕ) → T (all_true a (map (unit sign first) (range i k))) ↔ ((j : ℕ) → i ≤ j → j < i + k → T (literal_true a (sign (first + j))))
  unfolding unit clause_true
  units_true sign i k =
      let p : ℕ → Bool = λ j. clause_true a (unit sign first j) in
      let e = every_map (clause_true a) (unit sign first) (range i k) in (
        λ t j l h. (T-or (literal_true a (sign (first + j)))).0 (every-range p i k (subst T e t) j l h),
        λ h. subst T (sym e) (range-every p i k (λ j l k. (T-or (literal_true a (sign (first + j)))).1 (h j l k))),
      )

  low-iff : T (all_true a (map (unit Pos first) (range 0 L))) ↔ (L ≤ x)
  low-iff = (
    λ t. go ((units_true Pos 0 L).0 t) (dec_le L x),
    λ h. (units_true Pos 0 L).1 (λ j l k. rw (u j (omega arith)) (lt→ltb j x (omega arith))),
  )
    where
      go : ((j : ℕ) → 0 ≤ j → j < 0 + L → T (truth a (first + j))) → Dec (L ≤ x) → L ≤ x
      go t (yes h) = h
      go t (no h) =
          let lt : x < x = ltb→lt x x (rw (u x (omega arith)) at (t x (omega arith) (omega arith))) in
          omega arith

  high-iff : T (all_true a (map (unit Neg first) (range U (m - U)))) ↔ (x ≤ U)
  high-iff = (
    λ t. go ((units_true Neg U (m - U)).0 t) (dec_le x U),
    λ h. (units_true Neg U (m - U)).1 (λ j l k. rw (u j (omega arith)) (le→nltb j x (omega arith))),
  )
    where
      go : ((j : ℕ) → U ≤ j → j < U + (m - U) → T (not (truth a (first + j)))) → Dec (x ≤ U) → x ≤ U
      go t (yes h) = h
      go t (no h) = absurd (T_not (ltb U x) (rw (u U (omega arith)) at (t U (omega arith) (omega arith))) (lt→ltb U x (omega arith)))

  pub units-iff : T (all_true a (unit_clauses first m L U)) ↔ ((L ≤ x) × (x ≤ U))
  unfolding unit_clauses
  units-iff =
      let s = all_true-append a (map (unit Pos first) (range 0 L)) (map (unit Neg first) (range U (m - U))) in (
        λ t. let z = s.0 t in (low-iff.0 z.0, high-iff.0 z.1),
        λ h. s.1 (low-iff.1 h.0, high-iff.1 h.1),
      )

-- ---- the tree of a size

pub shape_in-step : (f m : ℕ) → 2 ≤ m → shape_in (suc f) m ≡ node (shape_in f (m / 2)) (shape_in f (m - m / 2))
unfolding shape_in
shape_in-step f m h = rw (T_false (leb m 1) (lt→nleb m 1 h))

pub shape_in-one : (f m : ℕ) → m ≤ 1 → shape_in f m ≡ leaf
unfolding shape_in
shape_in-one zero m h = refl
shape_in-one (suc f) m h = rw (T_true (leb m 1) (le→leb m 1 h))

pub leaves-shape_in : (f m : ℕ) → 1 ≤ m → m ≤ f → leaves (shape_in f m) ≡ m
leaves-shape_in zero m h k = absurd (omega arith)
leaves-shape_in (suc f) m h k = go (leaves-shape_in f (m / 2)) (leaves-shape_in f (m - m / 2)) (dec_le 2 m)
  where
    go : (1 ≤ m / 2 → m / 2 ≤ f → leaves (shape_in f (m / 2)) ≡ m / 2)
        → (1 ≤ m - m / 2 → m - m / 2 ≤ f → leaves (shape_in f (m - m / 2)) ≡ m - m / 2)
        → Dec (2 ≤ m) → leaves (shape_in (suc f) m) ≡ m
    go l r (yes h2) = rw (shape_in-step f m h2, l (omega arith) (omega arith), r (omega arith) (omega arith)) (omega arith)
    go l r (no h2) = rw (shape_in-one (suc f) m (omega arith)) (omega arith)

pub leaves-shape : (m : ℕ) → 1 ≤ m → leaves (shape m) ≡ m
unfolding shape
leaves-shape m h = leaves-shape_in m m h (le_refl m)

shape_in-same : (f g m : ℕ) → m ≤ f → m ≤ g → shape_in f m ≡ shape_in g m
shape_in-same zero g m h k = shape_in-one zero m (omega arith) ∙ sym (shape_in-one g m (omega arith))
shape_in-same (suc f) zero m h k = shape_in-one (suc f) m (omega arith) ∙ sym (shape_in-one zero m (omega arith))
shape_in-same (suc f) (suc g) m h k = go (shape_in-same f g (m / 2)) (shape_in-same f g (m - m / 2)) (dec_le 2 m)
  where
    go : (m / 2 ≤ f → m / 2 ≤ g → shape_in f (m / 2) ≡ shape_in g (m / 2))
        → (m - m / 2 ≤ f → m - m / 2 ≤ g → shape_in f (m - m / 2) ≡ shape_in g (m - m / 2))
        → Dec (2 ≤ m) → shape_in (suc f) m ≡ shape_in (suc g) m
    go l r (yes h2) = shape_in-step f m h2 ∙ ap₂ node (l (omega arith) (omega arith)) (r (omega arith) (omega arith)) ∙ sym (shape_in-step g m h2)
    go l r (no h2) = shape_in-one (suc f) m (omega arith) ∙ sym (shape_in-one (suc g) m (omega arith))

-- "a left half of size m/2 rounded down and a right half with the rest"
pub shape-step : (m : ℕ) → 2 ≤ m → shape m ≡ node (shape (m / 2)) (shape (m - m / 2))
unfolding shape
shape-step zero h = absurd (omega arith)
shape-step (suc k) h =
    shape_in-step k (suc k) h
    ∙ ap₂ node (shape_in-same k (suc k / 2) (suc k / 2) (omega arith) (omega arith))
    (shape_in-same k (suc k - suc k / 2) (suc k - suc k / 2) (omega arith) (omega arith))

pub shape_one : (m : ℕ) → m ≤ 1 → shape m ≡ leaf
unfolding shape
shape_one m h = shape_in-one m m h

-- the clauses and the root of a tree of size m, from those of its halves
pub tree_step : (m v o : ℕ) → 2 ≤ m
    → tree_clauses (shape m) v o
    ≡ tree_clauses (shape (m / 2)) v o
    ++ tree_clauses (shape (m - m / 2)) (v + m / 2) (o + outputs (shape (m / 2)))
    ++ node_clauses record {
      c = root_output (shape (m / 2)) v o;
      a = m / 2;
      d = root_output (shape (m - m / 2)) (v + m / 2) (o + outputs (shape (m / 2)));
      b = m - m / 2;
      n = o + outputs (shape (m / 2)) + outputs (shape (m - m / 2));
    }
tree_step m v o h =
    rw (shape-step m h)
    (tree_node (shape (m / 2)) (shape (m - m / 2)) v o
    ∙ rw (leaves-shape (m / 2) (omega arith), leaves-shape (m - m / 2) (omega arith)))

pub root-step : (m v o : ℕ) → 2 ≤ m → root_output (shape m) v o + m ≡ o + outputs (shape m)
root-step m v o h =
    let a = leaves-shape (m / 2) (omega arith) in
    let b = leaves-shape (m - m / 2) (omega arith) in
    rw (shape-step m h) (omega arith)

-- ---- the totalizer of m leaves from v on, its outputs from o on

pub totalizer_iff : (a : List Bool) (m v o L U : ℕ) → 1 ≤ m → L ≤ m → U ≤ m
    → T (all_true a (totalizer_clauses m v o L U)) ↔ (Filled a (shape m) v o × ((L ≤ count (values_from a v m)) × (count (values_from a v m) ≤ U)))
unfolding trues totalizer_clauses
totalizer_iff a m v o L U h1 h_l h_u = (
  λ t. let s = (all_true-append a tree ends).0 t in
      let f = (tree-iff a (shape m) v o).0 s.0 in
      (f, (units-iff a n m L U x h_l h_u le (un f)).0 s.1),
  λ h. (all_true-append a tree ends).1 ((tree-iff a (shape m) v o).1 h.0, (units-iff a n m L U x h_l h_u le (un h.0)).1 h.1),
)
  where
    n : ℕ
    n = root_output (shape m) v o

    x : ℕ
    x = count (values_from a v m)

    tree : List (List Literal)
    tree = tree_clauses (shape m) v o

    ends : List (List Literal)
    ends = unit_clauses n m L U

    le : x ≤ m
    le = trues-le a v m

    un : Filled a (shape m) v o → Unary a n m x
    un f = rw (leaves-shape m h1) at (filled-root a (shape m) v o f)
