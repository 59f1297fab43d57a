-- Code 7 in the listing: who has an X, and that codes 1 to 6 have nothing of it. Assumes nothing.
use mathlib.Core.Path.{◌≡◌, refl, sym, ap, ap₂, ◌∙◌, subst}
use mathlib.Core.Bool.{Bool, true, false, not, cond, ◌&&◌, ◌||◌, beq}
use mathlib.Core.List.{List, [], ◌∷◌, ◌++◌, map, append-nil}
use Prim.Native.Nat.{ℕ, zero, suc, ◌/◌, ◌+◌, ◌-◌, ◌%◌, ◌^◌, ◌≤◌, ◌<◌, max, min}
use native.Mathlib.Nat.{le_refl, add-zero, zero-add, add_assoc}
use native.Mathlib.Omega.{arith}
use native.Mathlib.Decide.{dec_lt}
use borrow.Author.Tests.{eqb-true}
use lib.Dec.{T, eqb, eqb→eq, eqb_refl}
use lib.Bits.{bit_or, bit_and, or_lt}
use lib.Pow.{pow_pos}
use lib.ListN.{get_or}
use Rattle.model.specs.declared.Literal.{Literal}
use Rattle.model.specs.declared.Literal.TheVariants.{Pos, Neg}
use Rattle.model.specs.declared.Term.{Term}
use Rattle.model.specs.declared.Term.TheVariants.{Holds, Fails, Open}
use Rattle.model.specs.declared.Group.{Group}
use Rattle.model.specs.declared.Constraint.{Constraint}
use Rattle.std.specs.List.{list_all, list_any, flat_map}
use Rattle.model.specs.Lists.{range}
use Rattle.model.specs.Words.{full, less, size, inside, bit, has}
use Rattle.model.specs.Clauses.{by_entrant, short_clauses, member_clauses, is_difference, rule_clauses, of_group, clauses_of}
use Rattle.model.specs.Model.{zero_group, group_at, member_at}
use Rattle.model.specs.Difference.{unlike, unlike_in, may_differ, apart, is_apart}
use Rattle.model.specs.Propagate.{scope}
use Rattle.model.specs.Totalizer.{opposite_term, holds, literals, keep}
use Rattle.model.specs.Cnf.{open_of, either_open, is_open_difference, differing, difference_count, membership, difference, constraint_term, term_of, clauses_at, last_clause, constraint_clauses}
use Rattle.model.specs.Close.{truth, term_true, clause_true}
use Rattle.model.specs.Fill.{one_of}
use Rattle.model.proofs.Words.{has_first, has-next, size_step, size_below, has-zero, has-and, has-or, has-less, has-past, has_ext, has_where, sub_refl, sub_antisym, sub-le, sub-less, inside-sub, sub-inside, inside-words, bit-zero, bit_le, bit-and, bit-or, bit-less, bit_ext, size-zero, size-le}
use Rattle.model.proofs.Lists.{T-ext, every-range, range-every, every_append, All, all_get_d, each_map}
use Rattle.model.proofs.Codes.{not_seven}
use Rattle.encoding_laws.proofs.Truth.{all_true, opposite-true, keep-true}
use Rattle.encoding_laws.proofs.Row.{in_row, row_word}
use Rattle.encoding_laws.proofs.Fixpoint.{SettledAmong}

each_ext : {A B : Type 0} (f g : A → List B) → ((x : A) → f x ≡ g x) → (xs : List A) → flat_map f xs ≡ flat_map g xs
each_ext f g h [] = refl
each_ext f g h (x ∷ xs) = ap₂ (λ p q. p ++ q) (h x) (each_ext f g h xs)

-- ---- codes 1 to 6

module _ (t : List Group) (c : Constraint) (six : T (by_entrant c.code)) where
  pub six-difference : is_difference c ≡ false
  unfolding is_difference
  six-difference = not_seven c.code six

  pub six-apart : is_apart t c ≡ false
  unfolding is_apart
  six-apart = rw six-difference

  pub six-differing : differing t c ≡ 0
  unfolding differing is_open_difference
  six-differing = rw six-difference

  pub six-count : difference_count t c ≡ 0
  unfolding difference_count
  six-count = rw six-differing size-zero

  pub six-last : (n x : ℕ) → last_clause n x t c ≡ []
  unfolding last_clause is_open_difference
  six-last n x = rw six-difference

  pub six-member : (x e i : ℕ) → constraint_term x t c e i ≡ membership t e (get_or c.groups i 0)
  unfolding constraint_term
  six-member x e i = rw six-difference

  pub six-scope : (n : ℕ) → scope n t c ≡ full n
  unfolding scope
  six-scope n = rw six-difference

  -- their clauses are those that the line rule goes through
  pub six-at : (x e : ℕ) → clauses_at x t c e ≡ flat_map (λ ls. keep (map (term_of (membership t e)) ls)) (clauses_of c)
  unfolding clauses_at clauses_of rule_clauses
  six-at x e =
      rw (six-apart, not_seven c.code six)
      (each_ext (λ ls. keep (map (term_of (constraint_term x t c e)) ls)) (λ ls. keep (map (term_of (membership t e)) (map (of_group c.groups) ls)))
      (λ ls. ap keep (terms ls)) (member_clauses c.code c.count)
      ∙ sym (each_map (λ ls. keep (map (term_of (membership t e)) ls)) (map (of_group c.groups)) (member_clauses c.code c.count)))
    where
      one : (l : Literal) → term_of (constraint_term x t c e) l ≡ term_of (membership t e) (of_group c.groups l)
      one (Pos i) = unfold of_group in six-member x e i
      one (Neg i) = unfold of_group in ap opposite_term (six-member x e i)

      terms : (ls : List Literal) → map (term_of (constraint_term x t c e)) ls ≡ map (term_of (membership t e)) (map (of_group c.groups) ls)
      terms [] = refl
      terms (l ∷ ls) = ap₂ (λ (p : Term) (q : List Term). p ∷ q) (one l) (terms ls)

-- ---- every code: the entrants with an X are below n

pub zero_settled : (n : ℕ) → SettledAmong n zero_group
unfolding zero_group
zero_settled n = record {
  group = record {
    fits = sub_refl 0;
    least = omega (arith, size-zero);
    order = le_refl 0;
    most = omega arith;
    full = λ _. refl;
    needed = λ _. refl;
  };
  small = pow_pos n;
}

module _ (n : ℕ) (t : List Group) (s : All (SettledAmong n) t) (c : Constraint) where
  pub member_settled : (i : ℕ) → SettledAmong n (member_at t c i)
  unfolding member_at group_at
  member_settled i = all_get_d (SettledAmong n) zero_group (zero_settled n) t s (get_or c.groups i 0 - 1)

  pub differing-lt : differing t c < 2 ^ n
  unfolding differing either_open open_of
  differing-lt = go (is_open_difference t c)
    where
      f : Group
      f = member_at t c 0

      g : Group
      g = member_at t c 1

      below : (r : Group) → SettledAmong n r → less r.possible r.fixed < 2 ^ n
      below r k = let h = sub-le (sub-less r.possible r.fixed) in omega (arith, k.small)

      go : (b : Bool) → cond b (bit_or (less f.possible f.fixed) (less g.possible g.fixed)) 0 < 2 ^ n
      go true = or_lt n (less f.possible f.fixed) (less g.possible g.fixed) (below f (member_settled 0)) (below g (member_settled 1))
      go false = pow_pos n

  pub count-le : difference_count t c ≤ n
  unfolding difference_count
  count-le = size-le n (differing t c) differing-lt

-- ---- code 7

module _ (t : List Group) (c : Constraint) (seven : c.code ≡ 7) where
  pub is-difference : is_difference c ≡ true
  unfolding is_difference
  is-difference = rw seven

  -- a settled entrant already differs: nothing
  pub apart-differing : is_apart t c ≡ true → differing t c ≡ 0
  unfolding differing is_open_difference
  apart-differing e = rw (is-difference, e)

  pub apart-at : is_apart t c ≡ true → (x e : ℕ) → clauses_at x t c e ≡ []
  unfolding clauses_at
  apart-at e x i = rw e

  pub apart-last : is_apart t c ≡ true → (n x : ℕ) → last_clause n x t c ≡ []
  unfolding last_clause is_open_difference
  apart-last e n x = rw (is-difference, e)

  pub apart-clauses : is_apart t c ≡ true → (n x : ℕ) → constraint_clauses n t x c ≡ []
  unfolding constraint_clauses
  apart-clauses e n x = rw (apart-last e n x) (append-nil (flat_map (clauses_at x t c) (range 0 n)) ∙ each_ext (clauses_at x t c) nothing (apart-at e x) (range 0 n) ∙ empty (range 0 n))
    where
      nothing : ℕ → List (List Literal)
      nothing i = []

      empty : (l : List ℕ) → flat_map nothing l ≡ []
      empty [] = refl
      empty (i ∷ l) = empty l

  -- there is such an entrant
  pub apart_some : is_apart t c ≡ true → T (not (eqb (apart (member_at t c 0) (member_at t c 1)) 0))
  unfolding is_apart
  apart_some e = rw is-difference at (subst T (sym e) tt)

  -- no settled entrant differs
  module _ (clear : is_apart t c ≡ false) where
    pub is_open : is_open_difference t c ≡ true
    unfolding is_open_difference
    is_open = rw (is-difference, clear)

    pub differing-is : differing t c ≡ either_open (member_at t c 0) (member_at t c 1)
    unfolding differing
    differing-is = rw is_open

    pub open-last : (n x : ℕ) → last_clause n x t c ≡ keep (map (difference x t c) (range 0 n))
    unfolding last_clause
    open-last n x = rw is_open

    none_apart : apart (member_at t c 0) (member_at t c 1) ≡ 0
    unfolding is_apart
    none_apart = go (eqb (apart (member_at t c 0) (member_at t c 1)) 0) refl (rw is-difference at clear)
      where
        go : (b : Bool) → eqb (apart (member_at t c 0) (member_at t c 1)) 0 ≡ b → (true && not b) ≡ false → apart (member_at t c 0) (member_at t c 1) ≡ 0
        go true e h = eqb-true (apart (member_at t c 0) (member_at t c 1)) 0 e
        go false e h = absurd (subst T h tt)

    -- fixed in one, then possible in the other
    pub apart-bits : (e : ℕ)
        → (bit e (member_at t c 0).fixed ≤ bit e (member_at t c 1).possible) × (bit e (member_at t c 1).fixed ≤ bit e (member_at t c 0).possible)
    unfolding apart
    apart-bits e =
        let f = member_at t c 0 in
        let g = member_at t c 1 in
        let z = ap (bit e) none_apart in
        let o = bit-or e (less f.fixed g.possible) (less g.fixed f.possible) in
        let p = bit-less e f.fixed g.possible in
        let q = bit-less e g.fixed f.possible in
        let r = bit-zero e in
        (omega arith, omega arith)

    pub differing-bits : (e : ℕ) → bit e (differing t c)
        ≡ max (bit e (member_at t c 0).possible - bit e (member_at t c 0).fixed) (bit e (member_at t c 1).possible - bit e (member_at t c 1).fixed)
    unfolding either_open open_of
    differing-bits e =
        let f = member_at t c 0 in
        let g = member_at t c 1 in
        ap (bit e) differing-is
        ∙ bit-or e (less f.possible f.fixed) (less g.possible g.fixed)
        ∙ ap₂ max (bit-less e f.possible f.fixed) (bit-less e g.possible g.fixed)

    -- and where some entrant is not settled alike, some entrant has an X
    pub some-differing : (n : ℕ) → All (SettledAmong n) t → T (may_differ t c) → differing t c ≡ 0 → ⊥
    unfolding may_differ unlike_in unlike
    some-differing n s may z =
        let f = member_at t c 0 in
        let g = member_at t c 1 in
        let none : unlike_in t c ≡ 0 = bit_ext (unlike_in t c) 0 (λ e. omega (
          arith,
          bit-less e (bit_or f.possible g.possible) (bit_and f.fixed g.fixed),
          bit-or e f.possible g.possible,
          bit-and e f.fixed g.fixed,
          bit-zero e,
          (apart-bits e).0,
          (apart-bits e).1,
          differing-bits e,
          ap (bit e) z,
          (member_settled n t s c 0).group.fits.at e,
          (member_settled n t s c 1).group.fits.at e,
          bit_le e f.possible,
          bit_le e g.possible,
        )) in
        rw (is-difference, none) at may

-- the four clauses of an entrant, over the terms of F, G and X
abbrev pub four_of : Term → Term → Term → List (List Literal)
four_of F G X =
    keep (opposite_term F ∷ opposite_term G ∷ opposite_term X ∷ [])
    ++ (keep (F ∷ G ∷ opposite_term X ∷ [])
    ++ (keep (opposite_term F ∷ G ∷ X ∷ [])
    ++ (keep (F ∷ opposite_term G ∷ X ∷ []) ++ [])))

pub four : (x : ℕ) (t : List Group) (c : Constraint) → c.code ≡ 7 → is_apart t c ≡ false → (e : ℕ)
    → clauses_at x t c e ≡ four_of (membership t e (get_or c.groups 0 0)) (membership t e (get_or c.groups 1 0)) (difference x t c e)
unfolding clauses_at member_clauses short_clauses
four x t c seven clear e =
    let mt : ℕ → Term = constraint_term x t c e in
    let kept : List Literal → List (List Literal) = λ ls. keep (map (term_of mt) ls) in
    let p : mt 0 ≡ membership t e (get_or c.groups 0 0) = unfold constraint_term in rw (is-difference t c seven) in
    let q : mt 1 ≡ membership t e (get_or c.groups 1 0) = unfold constraint_term in rw (is-difference t c seven) in
    let r : mt 2 ≡ difference x t c e = unfold constraint_term in rw (is-difference t c seven) in
    let s : flat_map kept (member_clauses 7 c.count) ≡ four_of (membership t e (get_or c.groups 0 0)) (membership t e (get_or c.groups 1 0)) (difference x t c e) =
    ap₂ (λ (F G : Term). four_of F G (mt 2)) p q ∙ ap (four_of (membership t e (get_or c.groups 0 0)) (membership t e (get_or c.groups 1 0))) r in
    rw clear (ap (λ (code : ℕ). flat_map kept (member_clauses code c.count)) seven ∙ s)

-- ---- the sets of a solution

pub one-bits : (e f g : ℕ) → bit e (one_of f g) ≡ max (bit e f) (bit e g) - min (bit e f) (bit e g)
unfolding one_of
one-bits e f g = bit-less e (bit_or f g) (bit_and f g) ∙ ap₂ (λ (x y : ℕ). x - y) (bit-or e f g) (bit-and e f g)

pub one_has : (e f g : ℕ) → has (one_of f g) e ≡ ((has f e || has g e) && not (has f e && has g e))
unfolding one_of
one_has e f g = has-less (bit_or f g) (bit_and f g) e ∙ ap₂ (λ (x y : Bool). x && not y) (has-or f g e) (has-and f g e)

pub one-lt : (n f g : ℕ) → f < 2 ^ n → g < 2 ^ n → one_of f g < 2 ^ n
unfolding one_of
one-lt n f g p q = let h = sub-le (sub-less (bit_or f g) (bit_and f g)) in omega (arith, or_lt n f g p q)

-- there are none exactly when the sets are equal
pub one_none : (f g : ℕ) → eqb (one_of f g) 0 ≡ eqb f g
one_none f g =
    T-ext (eqb (one_of f g) 0) (eqb f g)
    (λ t. let z = eqb→eq (one_of f g) 0 t in
    rw (bit_ext f g (λ e. omega (arith, one-bits e f g, ap (bit e) z, bit-zero e))) (eqb_refl g))
    (λ t. let z = eqb→eq f g t in
    rw (bit_ext (one_of f g) 0 (λ e. omega (arith, one-bits e f g, ap (bit e) z, bit-zero e))) tt)

-- words below 2 ^ n are equal where each entrant below n is in both or in neither
pub equal_words : (n x y : ℕ) → x < 2 ^ n → y < 2 ^ n → eqb x y ≡ list_all (λ e. beq (has x e) (has y e)) (range 0 n)
equal_words n x y hx hy =
    T-ext (eqb x y) (list_all same (range 0 n)) (λ t. range-every same 0 n (λ e _ _. rw (eqb→eq x y t) (alike (has y e))))
    (λ t. rw (has_ext x y (λ e. at e (every-range same 0 n t e) (dec_lt e n))) (eqb_refl y))
  where
    same : ℕ → Bool
    same e = beq (has x e) (has y e)

    alike : (b : Bool) → T (beq b b)
    alike true = tt
    alike false = tt

    is_same : (b c : Bool) → T (beq b c) → b ≡ c
    is_same true true t = refl
    is_same true false t = absurd t
    is_same false true t = absurd t
    is_same false false t = refl

    at : (e : ℕ) → (0 ≤ e → e < 0 + n → T (same e)) → Dec (e < n) → has x e ≡ has y e
    at e h (yes l) = is_same (has x e) (has y e) (h (omega arith) (omega arith))
    at e h (no l) = has-past n x e hx (omega arith) ∙ sym (has-past n y e hy (omega arith))

-- ---- truth

-- the four clauses say that X is true where just one of F and G is
pub four-true : (a : List Bool) (F G X : Term)
    → all_true a (four_of F G X) ≡ beq (term_true a X) ((term_true a F || term_true a G) && not (term_true a F && term_true a G))
four-true a F G X =
    parts (keep (opposite_term F ∷ opposite_term G ∷ opposite_term X ∷ [])) (keep (F ∷ G ∷ opposite_term X ∷ [])) (keep (opposite_term F ∷ G ∷ X ∷ []))
    (keep (F ∷ opposite_term G ∷ X ∷ []))
    ∙ ap₂ ◌&&◌ (three (opposite_term F) (opposite_term G) (opposite_term X))
    (ap₂ ◌&&◌ (three F G (opposite_term X)) (ap₂ ◌&&◌ (three (opposite_term F) G X) (three F (opposite_term G) X)))
    ∙ rw (opposite-true a F, opposite-true a G, opposite-true a X) (table (term_true a F) (term_true a G) (term_true a X))
  where
    and-true : (b : Bool) → (b && true) ≡ b
    and-true true = refl
    and-true false = refl

    three : (x y z : Term) → all_true a (keep (x ∷ y ∷ z ∷ [])) ≡ (term_true a x || (term_true a y || (term_true a z || false)))
    three x y z = keep-true a (x ∷ y ∷ z ∷ [])

    parts : (p q r s : List (List Literal)) → all_true a (p ++ (q ++ (r ++ (s ++ [])))) ≡ (all_true a p && (all_true a q && (all_true a r && all_true a s)))
    parts p q r s =
        every_append (clause_true a) p (q ++ (r ++ (s ++ [])))
        ∙ ap (λ b. all_true a p && b)
        (every_append (clause_true a) q (r ++ (s ++ []))
        ∙ ap (λ b. all_true a q && b)
        (every_append (clause_true a) r (s ++ [])
        ∙ ap (λ b. all_true a r && b) (every_append (clause_true a) s [] ∙ and-true (all_true a s))))

    table : (f g x : Bool)
        → ((not f || (not g || (not x || false))) && ((f || (g || (not x || false))) && ((not f || (g || (x || false))) && (f || (not g || (x || false))))))
        ≡ beq x ((f || g) && not (f && g))
    table true true true = refl
    table true true false = refl
    table true false true = refl
    table true false false = refl
    table false true true = refl
    table false true false = refl
    table false false true = refl
    table false false false = refl

-- the word of the X
abbrev pub difference_word : List Bool → ℕ → ℕ → List Group → Constraint → ℕ
difference_word a n x t c = row_word (truth a) n 0 (differing t c) x

pub difference-has : (a : List Bool) (n x : ℕ) (t : List Group) (c : Constraint) (e : ℕ) → e < n
    → term_true a (difference x t c e) ≡ has (difference_word a n x t c) e
unfolding difference row_word
difference-has a n x t c e h =
    go (has (differing t c) e)
    ∙ ap (λ (b : Bool). b || (has (differing t c) e && truth a (x + size (differing t c % 2 ^ e)))) (sym (has-zero e))
    ∙ sym (has_where (in_row (truth a) 0 (differing t c) x) n e h)
  where
    v : ℕ
    v = x + size (differing t c % 2 ^ e)

    go : (b : Bool) → term_true a (cond b (Open (Pos v)) Fails) ≡ (false || (b && truth a v))
    go true = refl
    go false = refl

-- some X is true
pub some-true : (n w : ℕ) → w < 2 ^ n → list_any (has w) (range 0 n) ≡ not (eqb w 0)
some-true n w h =
    turn (range 0 n) ∙ ap not (sym (inside-words n w 0 h) ∙ T-ext (inside w 0) (eqb w 0) (λ t. rw (nobody t) tt) (λ t. rw (eqb→eq w 0 t) (sub-inside 0 0 (sub_refl 0))))
  where
    nobody : T (inside w 0) → w ≡ 0
    nobody t = sub_antisym (inside-sub w 0 t) (record { at = λ e. omega (arith, bit-zero e) })

    turn : (l : List ℕ) → list_any (has w) l ≡ not (list_all (λ e. not (has w e) || has 0 e) l)
    turn [] = refl
    turn (e ∷ l) = rw (has-zero e, turn l) (table (has w e) (list_all (λ e. not (has w e) || has 0 e) l))
      where
        table : (x y : Bool) → (x || not y) ≡ not ((not x || false) && y)
        table true y = refl
        table false y = refl

-- ---- for the code: X is a member like a group, with nobody fixed and the entrants who have an X possible; and the last clause is x, x + 1, ..

pub difference-member : (x : ℕ) (t : List Group) (c : Constraint) (e : ℕ)
    → difference x t c e
    ≡ cond (has 0 e) Holds (cond (has (differing t c) e) (Open (Pos (x + size (less (differing t c) 0 % 2 ^ e)))) Fails)
unfolding difference
difference-member x t c e =
    let o = differing t c in
    let z : less o 0 ≡ o = bit_ext (less o 0) o (λ i. omega (arith, bit-less i o 0, bit-zero i)) in
    rw (has-zero e, z)

abbrev open_term : ℕ → ℕ → ℕ → Term
open_term x o e = cond (has o e) (Open (Pos (x + size (o % 2 ^ e)))) Fails

map_next : {A : Type 0} (f g : ℕ → A) (a k : ℕ) → ((e : ℕ) → f (suc e) ≡ g e) → map f (range (suc a) k) ≡ map g (range a k)
map_next f g a zero h = refl
map_next f g a (suc k) h = ap₂ {C = List _} (λ p q. p ∷ q) (h a) (map_next f g (suc a) k h)

open_literals : (n x o : ℕ) → o < 2 ^ n → literals (map (open_term x o) (range 0 n)) ≡ map Pos (range x (size o))
open_literals zero x o h = let z : o ≡ 0 = omega arith in rw (z, size-zero)
open_literals (suc n) x o h =
    let rest : map (open_term x o) (range 1 n) ≡ map (open_term (x + o % 2) (o / 2)) (range 0 n) =
    map_next (open_term x o) (open_term (x + o % 2) (o / 2)) 0 n
    (λ e. rw (has-next o e, size_below e o, sym (add_assoc x (o % 2) (size (o / 2 % 2 ^ e))))) in
    ap (λ (l : List Term). literals (open_term x o 0 ∷ l)) rest
    ∙ first (o % 2) refl (open_literals n (x + o % 2) (o / 2) (omega arith))
    ∙ ap (λ (k : ℕ). map Pos (range x k)) (sym (size_step o))
  where
    ls : List Term
    ls = map (open_term (x + o % 2) (o / 2)) (range 0 n)

    first : (b : ℕ) → o % 2 ≡ b → literals ls ≡ map Pos (range (x + o % 2) (size (o / 2)))
        → literals (open_term x o 0 ∷ ls) ≡ map Pos (range x (o % 2 + size (o / 2)))
    first zero p ih =
        let f : has o 0 ≡ false = has_first o ∙ rw p in
        rw f (ih ∙ rw (p, add-zero x, zero-add (size (o / 2))))
    first (suc zero) p ih =
        let f : has o 0 ≡ true = has_first o ∙ rw p in
        let z : o % 2 ^ 0 ≡ 0 = omega arith in
        let k : o % 2 + size (o / 2) ≡ suc (size (o / 2)) = omega arith in
        let s : x + o % 2 ≡ suc x = omega arith in
        rw (f, z, size-zero, add-zero x, k) (ap (λ (l : List Literal). Pos x ∷ l) (ih ∙ ap (λ (v : ℕ). map Pos (range v (size (o / 2)))) s))
    first (suc (suc b)) p ih = absurd (omega arith)

none-holds : (x o : ℕ) (l : List ℕ) → list_any holds (map (open_term x o) l) ≡ false
none-holds x o [] = refl
none-holds x o (e ∷ l) = go (has o e) (none-holds x o l)
  where
    go : (b : Bool) → list_any holds (map (open_term x o) l) ≡ false → (holds (cond b (Open (Pos (x + size (o % 2 ^ e)))) Fails) || list_any holds (map (open_term x o) l)) ≡ false
    go true h = h
    go false h = h

-- "The line's last clause holds all its X in rising order."
pub last-is : (n x : ℕ) (t : List Group) → All (SettledAmong n) t → (c : Constraint) → is_open_difference t c ≡ true
    → last_clause n x t c ≡ map Pos (range x (difference_count t c)) ∷ []
unfolding last_clause difference keep difference_count
last-is n x t s c open' =
    rw (open', none-holds x (differing t c) (range 0 n)) (ap (λ (l : List Literal). l ∷ []) (open_literals n x (differing t c) (differing-lt n t s c)))
