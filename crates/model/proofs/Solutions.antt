-- The list `solutions` has every solution: whoever goes through it has gone through all. Assumes nothing.
use mathlib.Core.Path.{◌≡◌, refl, sym, ap, ◌∙◌}
use mathlib.Core.Bool.{Bool, true, false, ◌&&◌}
use mathlib.Core.Logic.{◌⊎◌, inl, inr}
use mathlib.Core.List.Memᴰ
use mathlib.Core.List.{List, [], ◌∷◌, ◌++◌, map, Memᴰ}
use Prim.Native.Nat.{ℕ, zero, suc, ◌+◌, ◌^◌, ◌≤◌, ◌<◌}
use native.Mathlib.Omega.{arith}
use native.Mathlib.Decide.{dec_lt}
use lib.Dec.{T, leb, ltb, ltb→lt}
use lib.ListN.{length, take, length-take}
use Rattle.model.specs.declared.Group.{Group}
use Rattle.model.specs.declared.Model.{Model}
use Rattle.std.specs.List.{list_all, flat_map}
use Rattle.model.specs.Lists.{pairwise, those, range, between}
use Rattle.model.specs.Words.{size, inside}
use Rattle.model.specs.Limits.{limits, groups_for}
use Rattle.model.specs.Model.{table_of, constraints_of, group_in_range, constraint_in_range, in_range}
use Rattle.model.specs.Solution.{allowed, constraint_true, is_solution, all_tables, solutions}
use Rattle.model.proofs.Lists.{and_left, and_right, All, pairwise-length}
use Rattle.model.proofs.Words.{inside-sub, sub-le}

-- ---- membership

mem_each : {A B : Type 0} (f : A → List B) (y : B) (x : A) (xs : List A) → Memᴰ x xs → Memᴰ y (f x) → Memᴰ y (flat_map f xs)
mem_each f y x [] h k = elim h [ ]
mem_each {A} {B} f y x (z ∷ xs) h k = go (λ m. mem_each f y x xs m k) (Memᴰ.cases_cons h)
  where
    go : (Memᴰ x xs → Memᴰ y (flat_map f xs)) → (x ≡ z) ⊎ Memᴰ x xs → Memᴰ y (f z ++ flat_map f xs)
    go later (inl e) = Memᴰ.append_left (flat_map f xs) (rw e at k)
    go later (inr m) = Memᴰ.append_right (f z) (later m)

mem_range : (k a i : ℕ) → a ≤ i → i < a + k → Memᴰ i (range a k)
mem_range zero a i h l = absurd (omega arith)
mem_range (suc k) a i h l = go (λ g. mem_range k (suc a) i g (omega arith)) (dec_lt a i)
  where
    go : (suc a ≤ i → Memᴰ i (range (suc a) k)) → Dec (a < i) → Memᴰ i (a ∷ range (suc a) k)
    go later (yes g) = Memᴰ.tail (later (omega arith))
    go later (no g) = let e : i ≡ a = omega arith in Memᴰ.head e

mem_those : {A : Type 0} (p : A → Bool) (x : A) (xs : List A) → Memᴰ x xs → T (p x) → Memᴰ x (those p xs)
mem_those p x [] h t = elim h [ ]
mem_those {A} p x (z ∷ xs) h t = go (λ m. mem_those p x xs m t) (p z) refl (Memᴰ.cases_cons h)
  where
    go : (Memᴰ x xs → Memᴰ x (those p xs)) → (b : Bool) → p z ≡ b → (x ≡ z) ⊎ Memᴰ x xs
        → Memᴰ x (elim b [ true ↦ z ∷ those p xs | false ↦ those p xs ])
    go later true q (inl e) = Memᴰ.head e
    go later true q (inr m) = Memᴰ.tail (later m)
    go later false q (inl e) = absurd (rw (ap p e ∙ q) at t)
    go later false q (inr m) = later m

-- ---- every list of s words below b

pub all_tables_lem : (s b : ℕ) (d : List ℕ) → length d ≡ s → All (λ w. w < b) d → Memᴰ d (all_tables s b)
unfolding all_tables
all_tables_lem zero b [] e h = Memᴰ.head refl
all_tables_lem zero b (w ∷ d) e h = absurd (omega arith)
all_tables_lem (suc s) b [] e h = absurd (omega arith)
all_tables_lem (suc s) b (w ∷ d) e h =
    mem_each (λ v. map (λ c. v ∷ c) (all_tables s b)) (w ∷ d) w (range 0 b) (mem_range b 0 w (omega arith) (omega (arith, h.0)))
    (Memᴰ.map (λ c. w ∷ c) (all_tables_lem s b d (omega arith) h.1))

-- ---- the sets of a solution have no entrant past n

few : (n : ℕ) (g : Group) (w : ℕ) → T (group_in_range n g) → T (allowed g w) → w < 2 ^ n
unfolding allowed group_in_range
few n g w q a =
    let f = inside g.fixed g.possible in
    let p = ltb g.possible (2 ^ n) in
    let l = leb g.low g.high in
    let u = and_right f p (and_left (f && p) l (and_left (f && p && l) (leb g.high n) q)) in
    let i = and_right (inside g.fixed w) (inside w g.possible) (and_left (inside g.fixed w && inside w g.possible) (between g.low g.high (size w)) a) in
    omega (arith, ltb→lt g.possible (2 ^ n) u, sub-le (inside-sub w g.possible i))

below : (n : ℕ) (t : List Group) (d : List ℕ) → T (list_all (group_in_range n) t) → T (pairwise allowed t d) → All (λ w. w < 2 ^ n) d
below n [] [] r h = tt
below n [] (w ∷ d) r h = absurd h
below n (g ∷ t) [] r h = absurd h
below n (g ∷ t) (w ∷ d) r h = (
  few n g w (and_left (group_in_range n g) (list_all (group_in_range n) t) r) (and_left (allowed g w) (pairwise allowed t d) h),
  below n t d (and_right (group_in_range n g) (list_all (group_in_range n) t) r) (and_right (allowed g w) (pairwise allowed t d) h),
)

pub solution_listed : (m : Model) → T (in_range m) → m.s ≤ length m.groups → (d : List ℕ) → T (is_solution m d) → Memᴰ d (solutions m)
unfolding is_solution solutions in_range table_of
solution_listed m r k d h =
    let a = and_left (pairwise allowed (take m.s m.groups) d) (list_all (constraint_true d) (constraints_of m)) h in
    let x = between 1 limits.entrants m.n in
    let y = between 1 (groups_for m.n) m.s in
    let z = leb m.c limits.constraints in
    let t = list_all (group_in_range m.n) (take m.s m.groups) in
    let g = and_right (x && y && z) t (and_left (x && y && z && t) (list_all (constraint_in_range m.s) (constraints_of m)) r) in
    mem_those (is_solution m) d (all_tables m.s (2 ^ m.n))
    (all_tables_lem m.s (2 ^ m.n) d
    (sym (pairwise-length allowed (take m.s m.groups) d a) ∙ omega (arith, length-take m.s m.groups))
    (below m.n (take m.s m.groups) d g a))
    h
