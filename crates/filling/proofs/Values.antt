-- Laws of the values that are written: entrant by entrant, output by output, tree by tree, group by group. Assumes nothing.
use mathlib.Core.Path.{◌≡◌, refl, sym, ap, ap₂, ◌∙◌}
use mathlib.Core.Bool.{Bool, true, false, cond}
use mathlib.Core.List.{List, [], ◌∷◌, ◌++◌, map, append_assoc, append-nil}
use Prim.Native.Nat.{ℕ, zero, suc, ◌+◌, ◌-◌, ◌/◌, ◌%◌, ◌^◌, ◌≤◌, ◌<◌}
use native.Mathlib.Omega.{arith}
use native.Mathlib.Numerals.{add-one}
use native.Mathlib.Decide.{le_ind}
use borrow.Author.Tests.{eq-eqb, ne_eqb}
use lib.Bits.{bit_and, bit_or}
use lib.Dec.{T, eqb, ltb}
use lib.ListN.{length, get_or, take, drop, length-append, length-map, length-take, length-drop}
use lib.Seq.{take-suc}
use Rattle.model.specs.declared.Group.{Group}
use Rattle.model.specs.declared.Constraint.{Constraint}
use Rattle.std.specs.Prelude.{◌==◌, count_by}
use Rattle.std.specs.List.{flat_map}
use Rattle.std.proofs.lemmas.List.Recursion.{is_count_by}
use Rattle.model.specs.Lists.{those, each_pair, range}
use Rattle.model.specs.Words.{less, bit, has}
use Rattle.model.specs.Model.{zero_group}
use Rattle.model.specs.Totalizer.{Shape, shape}
use Rattle.model.specs.Clauses.{by_entrant}
use Rattle.model.specs.Cnf.{open_of, counted, differing}
use Rattle.model.specs.Solution.{set_of}
use Rattle.model.specs.Close.{assignment_of}
use Rattle.model.specs.Fill.{count, unary, open_values, variable_values, tree_values, output_values, one_of, member_set, difference_values, value_of, values_of}
use Rattle.model.proofs.Lists.{range_length, each_append}
use Rattle.encoding_laws.proofs.Row.{open_each}
use Rattle.encoding_laws.proofs.Values.{values-count, values-append, values_assign}
use Rattle.encoding_laws.proofs.Differences.{six-differing}
use Rattle.encoding_laws.proofs.Whole.{no-values}
use Rattle.encoding_laws.proofs.Totalizer.{leaves-shape, shape_one, shape-step}
use Rattle.text.specs.Put.{Wrote}
use Rattle.text.proofs.Writes.{kept, front, lent, lent_length}
use Rattle.filling.specs.Parts.{entrant_value, tree_of}

-- ---- values of a list

values-each : {A : Type 0} (f : A → List Bool) (xs : List A) → values_of (flat_map f xs) ≡ flat_map (λ x. values_of (f x)) xs
values-each f [] = unfold values_of in refl
values-each f (x ∷ xs) = values-append (f x) (flat_map f xs) ∙ ap (λ (l : List ℕ). values_of (f x) ++ l) (values-each f xs)

-- ---- the variables of a group, and the outputs of a node

pub open_are : (n o w : ℕ) → values_of (open_values n o w) ≡ flat_map (entrant_value o w) (range 0 n)
unfolding entrant_value
open_are n o w =
    ap values_of (open_each n o w)
    ∙ values-each (λ e. cond (has o e) (has w e ∷ []) []) (range 0 n)
    ∙ same (range 0 n)
  where
    one : (a b : Bool) → values_of (cond a (b ∷ []) []) ≡ cond a (value_of b ∷ []) []
    one true b = unfold values_of in refl
    one false b = unfold values_of in refl

    same : (es : List ℕ) → flat_map (λ e. values_of (cond (has o e) (has w e ∷ []) [])) es ≡ flat_map (λ e. cond (has o e) (value_of (has w e) ∷ []) []) es
    same [] = refl
    same (e ∷ es) = ap₂ (λ (a b : List ℕ). a ++ b) (one (has o e) (has w e)) (same es)

-- an entrant that is open, and one that is not
module _ (o w e : ℕ) where
  pub entrant-open : o / 2 ^ e % 2 ≡ 1 → (entrant_value o w e ≡ value_of (eqb (w / 2 ^ e % 2) 1) ∷ []) × (length (entrant_value o w e) ≡ 1)
  unfolding entrant_value has bit
  entrant-open h = let q : entrant_value o w e ≡ value_of (eqb (w / 2 ^ e % 2) 1) ∷ [] = rw (eq-eqb (o / 2 ^ e % 2) 1 h) in (q, ap length q)

  pub entrant-shut : (o / 2 ^ e % 2 ≡ 1 → ⊥) → entrant_value o w e ≡ []
  unfolding entrant_value has bit
  entrant-shut h = rw (ne_eqb (o / 2 ^ e % 2) 1 h)

abbrev pub output_value : ℕ → ℕ → List ℕ
output_value x i = value_of (ltb i x) ∷ []

pub outputs_are : (m x : ℕ) → values_of (unary m x) ≡ flat_map (output_value x) (range 0 m)
unfolding values_of
outputs_are m x = go (range 0 m)
  where
    go : (is : List ℕ) → map value_of (map (λ i. ltb i x) is) ≡ flat_map (output_value x) is
    go [] = refl
    go (i ∷ is) = ap (λ (l : List ℕ). value_of (ltb i x) ∷ l) (go is)

-- ---- how many are true

pub count-is : (xs : List ℕ) → count_by (λ b. b == 1) xs ≡ count (assignment_of xs)
unfolding assignment_of
count-is xs = sym (is_count_by (λ xs. count (map (λ b. eqb b 1) xs)) (λ b. b == 1) refl (λ x xs. next (eqb x 1) (map (λ b. eqb b 1) xs)) xs)
  where
    next : (b : Bool) (xs : List Bool) → count (b ∷ xs) ≡ cond b (1 + count xs) (count xs)
    next true xs = omega arith
    next false xs = refl

-- ---- a tree

assign_take : (k : ℕ) (xs : List ℕ) → take k (assignment_of xs) ≡ assignment_of (take k xs)
unfolding assignment_of
assign_take zero xs = refl
assign_take (suc k) [] = refl
assign_take (suc k) (x ∷ xs) = ap (λ (l : List Bool). eqb x 1 ∷ l) (assign_take k xs)

assign_drop : (k : ℕ) (xs : List ℕ) → drop k (assignment_of xs) ≡ assignment_of (drop k xs)
unfolding assignment_of
assign_drop zero xs = refl
assign_drop (suc k) [] = refl
assign_drop (suc k) (x ∷ xs) = assign_drop k xs

module _ (ls : List ℕ) (m : ℕ) (e : m ≡ length ls) where
  pub leaf-tree : m < 2 → tree_of ls ≡ []
  unfolding tree_of values_of
  leaf-tree h = ap (λ (s : Shape). values_of (tree_values s (assignment_of ls))) (shape_one (length ls) (omega arith))

  -- the halves, as slices of the leaves
  abbrev pub left : List ℕ
  left = take (m / 2) ls

  abbrev pub right : List ℕ
  right = take (length ls - m / 2) (drop (m / 2) ls)

  pub left-length : m / 2 ≡ length left
  left-length = sym (length-take (m / 2) ls ∙ omega arith)

  pub right-length : m - m / 2 ≡ length right
  right-length = sym (lent_length (m / 2) ls ∙ omega arith)

  module _ (h : 2 ≤ m) (x : ℕ) (k : x ≡ count (assignment_of ls)) where
    pub tree-parts : tree_of ls ≡ tree_of left ++ tree_of right ++ values_of (unary m x)
    unfolding tree_of
    tree-parts =
        let a : ℕ = m / 2 in
        let b : ℕ = m - m / 2 in
        let rest = drop a ls in
        let r : m / 2 + (m - m / 2) ≡ m = omega arith in
        let q : length rest ≡ b = length-drop a ls ∙ omega arith in
        let xs = tree_values (shape a) (assignment_of left) in
        let ys = tree_values (shape b) (assignment_of rest) in
        ap (λ (j : ℕ). values_of (tree_values (shape j) (assignment_of ls))) (sym e)
        ∙ ap (λ (s : Shape). values_of (tree_values s (assignment_of ls))) (shape-step m h)
        ∙ rw (leaves-shape a (omega arith), leaves-shape b (omega arith), r, assign_take a ls, assign_drop a ls, ← k)
        (values-append xs (ys ++ unary m x)
        ∙ ap (λ (l : List ℕ). values_of xs ++ l) (values-append ys (unary m x))
        ∙ sym (append_assoc (values_of xs) (values_of ys) (values_of (unary m x))))
        ∙ ap₂ (λ (i j : ℕ). values_of (tree_values (shape i) (assignment_of left)) ++ values_of (tree_values (shape j) (assignment_of rest)) ++ values_of (unary m x)) left-length (sym q)
        ∙ ap (λ (l : List ℕ). tree_of left ++ tree_of l ++ values_of (unary m x)) (sym (lent a ls))

    pub tree_length : length (tree_of ls) ≡ length (tree_of left) + length (tree_of right) + length (values_of (unary m x))
    tree_length =
        ap length tree-parts ∙ length-append (tree_of left ++ tree_of right) (values_of (unary m x))
        ∙ ap (λ (j : ℕ). j + length (values_of (unary m x))) (length-append (tree_of left) (tree_of right))

-- two leaves
pub pair_tree : (ls : List ℕ) (m : ℕ) (e : m ≡ length ls) → m ≡ 2 → (x : ℕ) → x ≡ count (assignment_of ls) → tree_of ls ≡ values_of (unary 2 x)
pair_tree ls m e two x k =
    tree-parts ls m e (omega arith) x k
    ∙ ap₂ (λ (a b : List ℕ). a ++ b ++ values_of (unary m x)) (leaf-tree (left ls m e) (m / 2) (left-length ls m e) (omega arith)) (leaf-tree (right ls m e) (m - m / 2) (right-length ls m e) (omega arith))
    ∙ ap (λ (j : ℕ). values_of (unary j x)) two

-- ---- a group's totalizer

module _ (n : ℕ) (g : Group) (w : ℕ) where
  pub variables-few : length (values_of (variable_values n g w)) ≤ n
  unfolding open_values
  variables-few =
      let k = those-few (has (open_of g)) (range 0 n) in
      omega (arith, values-count (variable_values n g w), length-map (those (has (open_of g)) (range 0 n)) (has w), range_length 0 n)
    where
      those-few : (p : ℕ → Bool) (xs : List ℕ) → length (those p xs) ≤ length xs
      those-few p [] = omega arith
      those-few p (x ∷ xs) = one (p x) (those-few p xs)
        where
          one : (b : Bool) → length (those p xs) ≤ length xs → length {A = ℕ} (elim b [ true ↦ x ∷ those p xs | false ↦ those p xs ]) ≤ suc (length xs)
          one true h = omega arith
          one false h = omega arith

  pub no-totalizer : (b : Bool) → b ≡ counted g → b ≡ false → values_of (output_values n g w) ≡ []
  unfolding output_values values_of
  no-totalizer b e f = rw (← e, f)

  totalizer-is : (b : Bool) → b ≡ counted g → b ≡ true → tree_of (values_of (variable_values n g w)) ≡ values_of (output_values n g w)
  unfolding output_values tree_of
  totalizer-is b e f = rw (← e, f, values-count (variable_values n g w), values_assign (variable_values n g w))

  -- the leaves, written at the front of an array
  module _ {xs ys : List ℕ} {k : ℕ} (v : Wrote (values_of (variable_values n g w)) 0 xs ys k) where
    pub leaves-inside : k ≤ length ys
    leaves-inside = omega (arith, v.inside, kept v)

    pub leaves-count : k ≡ length (take k ys)
    leaves-count = sym (length-take k ys ∙ omega (arith, leaves-inside))

    pub leaves-tree : (b : Bool) → b ≡ counted g → b ≡ true → tree_of (take k ys) ≡ values_of (output_values n g w)
    leaves-tree b e f = ap tree_of (front v) ∙ totalizer-is b e f

-- ---- group after group

module _ (f : Group → ℕ → List Bool) (groups : List Group) (words : List ℕ) where
  -- the values of the first i groups
  abbrev pub first_groups : ℕ → List ℕ
  first_groups i = values_of (each_pair f (take i groups) (take i words))

  pub groups-next : (i : ℕ) → i < length groups → i < length words
      → first_groups (i + 1) ≡ first_groups i ++ values_of (f (get_or groups i zero_group) (get_or words i 0))
  groups-next i h k =
      ap first_groups (add-one i)
      ∙ ap values_of (go groups words i h k)
      ∙ values-append (each_pair f (take i groups) (take i words)) (f (get_or groups i zero_group) (get_or words i 0))
    where
      go : (gs : List Group) (ws : List ℕ) (i : ℕ) → i < length gs → i < length ws
          → each_pair f (take (suc i) gs) (take (suc i) ws) ≡ each_pair f (take i gs) (take i ws) ++ f (get_or gs i zero_group) (get_or ws i 0)
      go [] ws i h k = absurd (omega arith)
      go (g ∷ gs) [] i h k = absurd (omega arith)
      go (g ∷ gs) (w ∷ ws) zero h k = append-nil (f g w)
      go (g ∷ gs) (w ∷ ws) (suc i) h k =
          ap (λ (l : List Bool). f g w ++ l) (go gs ws i (omega arith) (omega arith))
          ∙ sym (append_assoc (f g w) (each_pair f (take i gs) (take i ws)) (f (get_or gs i zero_group) (get_or ws i 0)))

  next-length : (i : ℕ) → i < length groups → i < length words
      → length (first_groups (suc i)) ≡ length (first_groups i) + length (values_of (f (get_or groups i zero_group) (get_or words i 0)))
  next-length i h k =
      ap (λ (j : ℕ). length (first_groups j)) (sym (add-one i))
      ∙ ap length (groups-next i h k)
      ∙ length-append (first_groups i) (values_of (f (get_or groups i zero_group) (get_or words i 0)))

  pub groups-room : (i s : ℕ) → i < s → s ≤ length groups → s ≤ length words
      → length (first_groups i) + length (values_of (f (get_or groups i zero_group) (get_or words i 0))) ≤ length (first_groups s)
  groups-room i s h p q =
      le_ind {n = suc i} (λ (j : ℕ). j ≤ length groups → j ≤ length words → length (first_groups i) + length (values_of (f (get_or groups i zero_group) (get_or words i 0))) ≤ length (first_groups j))
      (λ p q. omega (arith, next-length i (omega arith) (omega arith)))
      (λ j hj ih p q. omega (arith, ih (omega arith) (omega arith), next-length j (omega arith) (omega arith))) s h p q

-- ---- constraint after constraint

module _ (n : ℕ) (t : List Group) (d : List ℕ) (c : Constraint) where
  pub differences-none : T (by_entrant c.code) → values_of (difference_values n t d c) ≡ []
  unfolding difference_values values_of
  differences-none six =
      let w = one_of (member_set d c 0) (member_set d c 1) in
      ap (λ (o : ℕ). values_of (open_values n o w)) (six-differing t c six) ∙ ap values_of (no-values n w)

  pub differences-are : (o f g : ℕ) → o ≡ differing t c → f ≡ set_of d (get_or c.groups 0 0) → g ≡ set_of d (get_or c.groups 1 0)
      → values_of (open_values n o (less (bit_or f g) (bit_and f g))) ≡ values_of (difference_values n t d c)
  unfolding difference_values one_of
  differences-are o f g q a b = rw (q, a, b)

module _ (f : Constraint → List Bool) (cs : List Constraint) where
  -- the values of the first j constraints
  abbrev pub first_constraints : ℕ → List ℕ
  first_constraints j = values_of (flat_map f (take j cs))

  pub constraints-next : (j : ℕ) (d : Constraint) → j < length cs → first_constraints (j + 1) ≡ first_constraints j ++ values_of (f (get_or cs j d))
  constraints-next j d h =
      ap (λ l. values_of (flat_map f l)) (ap (λ (i : ℕ). take i cs) (add-one j) ∙ take-suc cs j d h)
      ∙ ap values_of (each_append f (take j cs) (get_or cs j d ∷ []) ∙ ap (λ (l : List Bool). flat_map f (take j cs) ++ l) (append-nil (f (get_or cs j d))))
      ∙ values-append (flat_map f (take j cs)) (f (get_or cs j d))

  pub constraints-room : (j c : ℕ) (d : Constraint) → j < c → c ≤ length cs → length (first_constraints j) + length (values_of (f (get_or cs j d))) ≤ length (first_constraints c)
  constraints-room j c d h p =
      le_ind {n = suc j} (λ (i : ℕ). i ≤ length cs → length (first_constraints j) + length (values_of (f (get_or cs j d))) ≤ length (first_constraints i))
      (λ p. omega (arith, next-size j (omega arith)))
      (λ i hi ih p. omega (arith, ih (omega arith), next-size i (omega arith))) c h p
    where
      next-size : (i : ℕ) → i < length cs → length (first_constraints (suc i)) ≡ length (first_constraints i) + length (values_of (f (get_or cs i d)))
      next-size i l =
          ap (λ (k : ℕ). length (first_constraints k)) (sym (add-one i)) ∙ ap length (constraints-next i d l) ∙ length-append (first_constraints i) (values_of (f (get_or cs i d)))
