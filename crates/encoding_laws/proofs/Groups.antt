-- The constraints' clauses and the groups, from one to the next with their numbering. Assumes nothing.
use mathlib.Core.Path.{◌≡◌, refl, sym, ap, ap₂, ◌∙◌}
use mathlib.Core.Bool.{Bool, true, false, cond, ◌&&◌}
use mathlib.Core.List.{List, [], ◌∷◌, ◌++◌, map}
use Prim.Native.Nat.{ℕ, suc, ◌+◌, ◌-◌, ◌%◌, ◌^◌}
use native.Mathlib.Nat.{add-zero, zero-add, suc-add, add_assoc}
use native.Mathlib.Omega.{arith}
use lib.Dec.{eqb}
use lib.ListN.{length, get_or, take, length-append, length-take}
use Rattle.model.specs.declared.Literal.{Literal}
use Rattle.model.specs.declared.Literal.TheVariants.{Pos, Neg}
use Rattle.model.specs.declared.Term.{Term}
use Rattle.model.specs.declared.Term.TheVariants.{Open, Fails}
use Rattle.model.specs.declared.Group.{Group}
use Rattle.model.specs.declared.Constraint.{Constraint}
use Rattle.model.specs.declared.Model.{Model}
use Rattle.std.specs.List.{list_any, flat_map}
use Rattle.model.specs.Lists.{total, range}
use Rattle.model.specs.Words.{size, has}
use Rattle.model.specs.Clauses.{member_clauses, is_difference}
use Rattle.model.specs.Model.{zero_group, zero_constraint, group_at, table_of, constraints_of, Sized}
use Rattle.model.specs.Difference.{is_apart}
use Rattle.model.specs.Totalizer.{opposite_term, holds, literals, keep}
use Rattle.model.specs.Cnf.{open_count, outputs_of, first_variable, first_output, is_open_difference, differing, difference_count, first_difference, table_variables, membership, difference, constraint_term, term_of, clauses_at, last_clause, constraint_clauses, line_clauses}
use Rattle.model.proofs.Lists.{any-map, any-ext, each-range_ext, length-each, total_ext, values-make, places}

-- ---- from constraint to constraint

-- what F makes of each constraint and its first X, in one list
abbrev pub over_constraints : {B : Type 0} → List Group → (ℕ → Constraint → List B) → List Constraint → ℕ → List B
over_constraints t F [] x = []
over_constraints t F (c ∷ cs) x = F x c ++ over_constraints t F cs (x + difference_count t c)

constraints-numbered : {B : Type 0} (t : List Group) (F : ℕ → Constraint → List B) (cs : List Constraint) (x k : ℕ)
    → flat_map (λ b. F (x + total (difference_count t) (take (b - k) cs)) (get_or cs (b - k) zero_constraint)) (range k (length cs)) ≡ over_constraints t F cs x
constraints-numbered t F [] x k = refl
constraints-numbered {B} t F (c ∷ cs) x k =
    let first : at (c ∷ cs) x k k ≡ F x c = let z : k - k ≡ 0 = omega arith in rw (z, add-zero x) in
    ap₂ (λ (p q : List B). p ++ q) first
    (each-range_ext (at (c ∷ cs) x k) (at cs (x + difference_count t c) (suc k)) (suc k) (length cs)
    (λ b l h. let e : b - k ≡ suc (b - suc k) = omega arith in
    rw (e, add_assoc x (difference_count t c) (total (difference_count t) (take (b - suc k) cs))))
    ∙ constraints-numbered t F cs (x + difference_count t c) (suc k))
  where
    at : List Constraint → ℕ → ℕ → ℕ → List B
    at cs x k b = F (x + total (difference_count t) (take (b - k) cs)) (get_or cs (b - k) zero_constraint)

-- the number of clauses does not depend on the numbering
keep-count : {A : Type 0} (f g : A → Term) → ((a : A) → holds (f a) ≡ holds (g a)) → (l : List A) → length (keep (map f l)) ≡ length (keep (map g l))
unfolding keep
keep-count f g h l = rw (any-map holds f l, any-map holds g l, any-ext (λ a. holds (f a)) (λ a. holds (g a)) h l) (go (list_any (λ a. holds (g a)) l))
  where
    go : (b : Bool) → length (cond b [] (literals (map f l) ∷ [])) ≡ length (cond b [] (literals (map g l) ∷ []))
    go true = refl
    go false = refl

-- known alike, and their opposites too
abbrev Alike : Term → Term → Type 0
Alike p q = (holds p ≡ holds q) × (holds (opposite_term p) ≡ holds (opposite_term q))

module _ (t : List Group) (c : Constraint) (x y : ℕ) where
  difference-alike : (e : ℕ) → Alike (difference x t c e) (difference y t c e)
  unfolding difference
  difference-alike e = go (has (differing t c) e)
    where
      k : ℕ
      k = size (differing t c % 2 ^ e)

      go : (b : Bool) → Alike (cond b (Open (Pos (x + k))) Fails) (cond b (Open (Pos (y + k))) Fails)
      go true = (refl, refl)
      go false = (refl, refl)

  member_alike : (e i : ℕ) → Alike (constraint_term x t c e i) (constraint_term y t c e i)
  unfolding constraint_term
  member_alike e i = go (is_difference c && eqb i 2)
    where
      g : Term
      g = membership t e (get_or c.groups i 0)

      go : (b : Bool) → Alike (cond b (difference x t c e) g) (cond b (difference y t c e) g)
      go true = difference-alike e
      go false = (refl, refl)

  term-known : (e : ℕ) (l : Literal) → holds (term_of (constraint_term x t c e) l) ≡ holds (term_of (constraint_term y t c e) l)
  term-known e (Pos i) = (member_alike e i).0
  term-known e (Neg i) = (member_alike e i).1

  entrant-count : (e : ℕ) → length (clauses_at x t c e) ≡ length (clauses_at y t c e)
  unfolding clauses_at
  entrant-count e = go (is_apart t c)
    where
      cs : List (List Literal)
      cs = member_clauses c.code c.count

      kept : ℕ → List Literal → List (List Literal)
      kept z ls = keep (map (term_of (constraint_term z t c e)) ls)

      go : (b : Bool) → length (cond b [] (flat_map (kept x) cs)) ≡ length (cond b [] (flat_map (kept y) cs))
      go true = refl
      go false =
          length-each (kept x) cs
          ∙ total_ext (λ ls. length (kept x ls)) (λ ls. length (kept y ls)) (keep-count (term_of (constraint_term x t c e)) (term_of (constraint_term y t c e)) (term-known e)) cs
          ∙ sym (length-each (kept y) cs)

  last-count : (n : ℕ) → length (last_clause n x t c) ≡ length (last_clause n y t c)
  unfolding last_clause
  last-count n = go (is_open_difference t c)
    where
      go : (b : Bool) → length (cond b (keep (map (difference x t c) (range 0 n))) []) ≡ length (cond b (keep (map (difference y t c) (range 0 n))) [])
      go true = keep-count (difference x t c) (difference y t c) (λ e. (difference-alike e).0) (range 0 n)
      go false = refl

  pub constraint-count : (n : ℕ) → length (constraint_clauses n t x c) ≡ length (constraint_clauses n t y c)
  unfolding constraint_clauses
  constraint-count n =
      length-append (flat_map (clauses_at x t c) (range 0 n)) (last_clause n x t c)
      ∙ ap₂ (λ (p q : ℕ). p + q)
      (length-each (clauses_at x t c) (range 0 n)
      ∙ total_ext (λ e. length (clauses_at x t c e)) (λ e. length (clauses_at y t c e)) entrant-count (range 0 n)
      ∙ sym (length-each (clauses_at y t c) (range 0 n)))
      (last-count n)
      ∙ sym (length-append (flat_map (clauses_at y t c) (range 0 n)) (last_clause n y t c))

pub constraints-counted : (n : ℕ) (t : List Group) (cs : List Constraint) (x : ℕ)
    → length (over_constraints t (constraint_clauses n t) cs x) ≡ total (λ c. length (constraint_clauses n t 0 c)) cs
constraints-counted n t [] x = refl
constraints-counted n t (c ∷ cs) x =
    length-append (constraint_clauses n t x c) (over_constraints t (constraint_clauses n t) cs (x + difference_count t c))
    ∙ ap₂ (λ (p q : ℕ). p + q) (constraint-count t c x 0 n) (constraints-counted n t cs (x + difference_count t c))

-- ---- the listing

module _ (m : Model) (z : Sized m) where
  pub table-length : length (table_of m) ≡ m.s
  unfolding table_of
  table-length = length-take m.s m.groups ∙ omega (arith, z.groups)

  pub constraints-length : length (constraints_of m) ≡ m.c
  unfolding constraints_of
  constraints-length = length-take m.c m.constraints ∙ omega (arith, z.constraints)

  -- the constraints' blocks, one after the other
  pub lines-parts : (k : ℕ) → flat_map (λ b. line_clauses m (b - k)) (range (1 + k) m.c)
      ≡ over_constraints (table_of m) (constraint_clauses m.n (table_of m)) (constraints_of m) (1 + table_variables (table_of m))
  unfolding line_clauses first_difference
  lines-parts k =
      each-range_ext (λ b. line_clauses m (b - k)) (λ b. at (b - (1 + k))) (1 + k) m.c (λ j l h. ap at {x = j - k - 1} {y = j - (1 + k)} (omega arith))
      ∙ ap (λ (c : ℕ). flat_map (λ b. at (b - (1 + k))) (range (1 + k) c)) (sym constraints-length)
      ∙ constraints-numbered (table_of m) (constraint_clauses m.n (table_of m)) (constraints_of m) (1 + table_variables (table_of m)) (1 + k)
    where
      at : ℕ → List (List Literal)
      at i =
          constraint_clauses m.n (table_of m) (1 + table_variables (table_of m) + total (difference_count (table_of m)) (take i (constraints_of m)))
          (get_or (constraints_of m) i zero_constraint)

  pub groups-places : map (group_at (table_of m)) (range 1 m.s) ≡ table_of m
  unfolding group_at
  groups-places = ap (λ (k : ℕ). map (group_at (table_of m)) (range 1 k)) (sym table-length) ∙ places 1 (table_of m) zero_group

-- ---- from group to group

-- what F makes of each group, its first variable and its first output
abbrev pub over_groups : {B : Type 0} → (Group → ℕ → ℕ → B) → List Group → ℕ → ℕ → List B
over_groups F [] v o = []
over_groups F (r ∷ rs) v o = F r v o ∷ over_groups F rs (v + open_count r) (o + outputs_of r)

module _ {B : Type 0} (F : Group → ℕ → ℕ → B) where
  from : List Group → ℕ → ℕ → ℕ → B
  from t v o i = F (get_or t i zero_group) (v + total open_count (take i t)) (o + total outputs_of (take i t))

  from_first : (t : List Group) (v o : ℕ) → map (from t v o) (range 0 (length t)) ≡ over_groups F t v o
  unfolding from
  from_first [] v o = refl
  from_first (r ∷ rs) v o =
      ap₂ (λ (x : B) (xs : List B). x ∷ xs) (rw (add-zero v, add-zero o))
      (values-make (from (r ∷ rs) v o) (from rs (v + open_count r) (o + outputs_of r)) 1 0 (length rs)
      (λ j h. rw (suc-add 0 j, zero-add j)
      (ap₂ (λ (x y : ℕ). F (get_or rs j zero_group) x y) (sym (add_assoc v (open_count r) (total open_count (take j rs))))
      (sym (add_assoc o (outputs_of r) (total outputs_of (take j rs))))))
      ∙ from_first rs (v + open_count r) (o + outputs_of r))

  pub numbered : (t : List Group)
      → map (λ g. F (group_at t g) (first_variable t g) (first_output t g)) (range 1 (length t)) ≡ over_groups F t 1 (1 + total open_count t)
  unfolding group_at first_variable first_output from
  numbered t =
      values-make (λ g. F (group_at t g) (first_variable t g) (first_output t g)) (from t 1 (1 + total open_count t)) 1 0 (length t)
      (λ j h. let e : 1 + j - 1 ≡ 0 + j = omega arith in rw e)
      ∙ from_first t 1 (1 + total open_count t)
