-- Laws of a constraint's members, and of arrays that are filled from the front. Assumes nothing.
use Rattle.std.proofs.Common.{◌≡◌, ℕ, suc, ◌+◌, ◌-◌, ◌/◌, ◌%◌, ◌^◌, ◌<◌, ◌≤◌, Bool, true, false, cond, ◌&&◌, leb, List, [], ◌∷◌, ◌++◌, map, length, get_or, take, set, replicate, sym, refl, ap, ◌∙◌, ap₂, append_assoc, arith, length-take, take_all, min, lt-ltb, eq-eqb, ne_eqb, le-leb}
use mathlib.Core.List.{map-append}
use borrow.Author.Tests.{lt-leb}
use lib.Bits.{bit_and, bit_xor}
use lib.Count.{ones}
use lib.ListN.{length-map}
use native.Mathlib.Decide.{dec_le}
use lib.Seq.{set_at}
use Rattle.model.specs.declared.Literal.TheVariants.{Pos}
use Rattle.model.specs.declared.Term.TheVariants.{Holds, Fails, Open}
use Rattle.model.specs.Limits.{limits}
use Rattle.model.specs.Words.{less, bit, has}
use Rattle.model.proofs.Words.{size-ones, has-past}
use Rattle.numbering.proofs.Arrays.{next-take}
use Rattle.terms.specs.declared.Member.{Member}
use Rattle.terms.specs.Terms.{first_of, place_of, absent, present, member_number, number_at, number_term}

-- ---- where a group stands

module _ (g : ℕ) where
  pub place_in : 1 ≤ g → g ≤ limits.groups → g - 1 ≡ place_of g
  unfolding place_of
  place_in h k = rw (le-leb 1 g h, le-leb g limits.groups k)

  pub place-past : limits.groups < g → 0 ≡ place_of g
  unfolding place_of
  place-past h = rw (lt-leb g limits.groups h) (go (leb 1 g))
    where
      go : (b : Bool) → 0 ≡ cond (b && false) (g - 1) 0
      go true = refl
      go false = refl

-- ---- a member's number

module _ (m : Member) (e : ℕ) where
  pub number_past : m.fixed < 2 ^ limits.word → m.possible < 2 ^ limits.word → limits.word ≤ e → absent ≡ member_number e m
  unfolding member_number
  number_past f p h = rw (has-past limits.word m.fixed e f h, has-past limits.word m.possible e p h)

  pub number-present : m.fixed / 2 ^ e % 2 ≡ 1 → present ≡ member_number e m
  unfolding member_number has bit
  number-present h = rw (eq-eqb (m.fixed / 2 ^ e % 2) 1 h)

  pub number-absent : (m.fixed / 2 ^ e % 2 ≡ 1 → ⊥) → (m.possible / 2 ^ e % 2 ≡ 1 → ⊥) → absent ≡ member_number e m
  unfolding member_number has bit
  number-absent h k = rw (ne_eqb (m.fixed / 2 ^ e % 2) 1 h, ne_eqb (m.possible / 2 ^ e % 2) 1 k)

  pub number-open : (m.fixed / 2 ^ e % 2 ≡ 1 → ⊥) → m.possible / 2 ^ e % 2 ≡ 1 → (d v : ℕ) → d ≡ 2 ^ e
      → v ≡ (m.first + ones (bit_xor m.possible (bit_and m.possible m.fixed) % d)) % 2 ^ 32 → v ≡ member_number e m
  unfolding member_number has bit less
  number-open h k d v q w =
      rw (ne_eqb (m.fixed / 2 ^ e % 2) 1 h, eq-eqb (m.possible / 2 ^ e % 2) 1 k, w, q)
      (ap (λ (n : ℕ). (m.first + n) % 2 ^ 32) (sym (size-ones (bit_xor m.possible (bit_and m.possible m.fixed) % 2 ^ e))))

-- ---- a number in an array, and what it stands for

module _ (ns : List ℕ) (i : ℕ) where
  pub number_in : i < limits.members → get_or ns i absent ≡ number_at ns i
  unfolding number_at
  number_in h = rw (lt-ltb i limits.members h)

module _ (x : ℕ) where
  pub term-absent : x ≡ absent → Fails ≡ number_term x
  unfolding number_term
  term-absent e = rw e

  pub term-present : x ≡ present → Holds ≡ number_term x
  unfolding number_term
  term-present e = rw e

  pub term-open : (x ≡ absent → ⊥) → (x ≡ present → ⊥) → Open (Pos x) ≡ number_term x
  unfolding number_term
  term-open h k = rw (ne_eqb x absent h, ne_eqb x present k)

-- ---- an array whose first places are filled

module _ {A B : Type 0} (f : A → B) (d : B) (n : ℕ) (xs : List A) (wide : length xs ≡ n) where
  next_place : (i : ℕ) (x : A) → i < n → set (first_of f d n i xs) i (f (get_or xs i x)) ≡ first_of f d n (i + 1) xs
  next_place i x h =
      let z : n - i ≡ suc (n - (i + 1)) = omega arith in
      let rest : List B = replicate (n - (i + 1)) d in
      let l : length (map f (take i xs)) ≡ i = length-map (take i xs) f ∙ length-take i xs ∙ omega arith in
      let last : map f (take (i + 1) xs) ≡ map f (take i xs) ++ (f (get_or xs i x) ∷ []) =
      ap (map f) (next-take xs i x (omega arith)) ∙ map-append f (take i xs) (get_or xs i x ∷ []) in
      rw z
      (set_at (map f (take i xs)) d rest (f (get_or xs i x)) i l
      ∙ sym (ap (λ (b : List B). b ++ rest) last ∙ append_assoc (map f (take i xs)) (f (get_or xs i x) ∷ []) rest))

  pub fill-first : (i : ℕ) (x : A) (r : List B) (v : B) → i < n → r ≡ first_of f d n i xs → v ≡ f (get_or xs i x) → set r i v ≡ first_of f d n (i + 1) xs
  fill-first i x r v h e q = ap₂ (λ (b : List B) (y : B). set b i y) e q ∙ next_place i x h

  pub first-whole : (i k : ℕ) → n ≤ i → i ≤ k → first_of f d n i xs ≡ first_of f d n k xs
  first-whole i k h l =
      let a : n - i ≡ 0 = omega arith in
      let b : n - k ≡ 0 = omega arith in
      rw (a, b) (ap (λ (b : List A). map f b ++ []) (take_all i xs (omega arith) ∙ sym (take_all k xs (omega arith))))

  -- the first k, of which there are no more than n
  pub first-least : (i k : ℕ) → i ≡ min k n → first_of f d n i xs ≡ first_of f d n k xs
  first-least i k e =
      elim (dec_le k n) [
        | yes h ↦ ap (λ (m : ℕ). first_of f d n m xs) (omega (arith, e))
        | no h ↦ first-whole i k (omega (arith, e)) (omega (arith, e))
      ]
