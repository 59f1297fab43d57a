-- Those in none of some words, and those in one at most: together they tell who is in none of the others. Assumes nothing.
use mathlib.Core.Path.{◌≡◌, refl, ap, ◌∙◌}
use Prim.Native.Nat.{ℕ}
use native.Mathlib.Omega.{arith}
use native.Mathlib.Decide.{dec_lt}
use mathlib.Core.List.{List, [], ◌∷◌, ◌++◌}
use lib.Bits.{bit_and, bit_or}
use Rattle.model.specs.Words.{less, bit}
use Rattle.model.proofs.Words.{bit_le, bit-zero, bit-and, bit-or, bit-less, bit_ext}
use Rattle.clause_rule.specs.Union.{outside, in_one_at_most}

pub outside-append : (w : ℕ) (ps qs : List ℕ) → outside w (ps ++ qs) ≡ outside (outside w ps) qs
outside-append w [] qs = refl
outside-append w (p ∷ ps) qs = outside-append (less w p) ps qs

pub one-append : (none one : ℕ) (ps qs : List ℕ) → in_one_at_most none one (ps ++ qs) ≡ in_one_at_most (outside none ps) (in_one_at_most none one ps) qs
one-append none one [] qs = refl
one-append none one (p ∷ ps) qs = one-append (less none p) (bit_or none (less one p)) ps qs

-- nobody stays nobody
none_left : (a b : ℕ) → bit_or a b ≡ 0 → a ≡ 0
none_left a b e = bit_ext a 0 (λ i. omega (arith, bit-or i a b, ap (bit i) e, bit-zero i))

pub none-none : (a b : ℕ) → bit_or a b ≡ 0 → (a ≡ 0) × (b ≡ 0)
none-none a b e = (bit_ext a 0 (λ i. omega (arith, bit-or i a b, ap (bit i) e, bit-zero i)), bit_ext b 0 (λ i. omega (arith, bit-or i a b, ap (bit i) e, bit-zero i)))

less_none : (p : ℕ) → less 0 p ≡ 0
less_none p = bit_ext (less 0 p) 0 (λ i. omega (arith, bit-less i 0 p, bit-zero i))

or-none : bit_or 0 0 ≡ 0
or-none = bit_ext (bit_or 0 0) 0 (λ i. omega (arith, bit-or i 0 0, bit-zero i))

pub outside-none : (ps : List ℕ) → outside 0 ps ≡ 0
outside-none [] = refl
outside-none (p ∷ ps) = ap (λ (x : ℕ). outside x ps) (less_none p) ∙ outside-none ps

pub one_none : (ps : List ℕ) → in_one_at_most 0 0 ps ≡ 0
one_none [] = refl
one_none (p ∷ ps) = rw (less_none p, or-none) (one_none ps)

-- ---- entrant by entrant

module _ (e : ℕ) where
  outside-alike : (ps : List ℕ) (a b : ℕ) → bit e a ≡ bit e b → bit e (outside a ps) ≡ bit e (outside b ps)
  outside-alike [] a b h = h
  outside-alike (p ∷ ps) a b h = outside-alike ps (less a p) (less b p) (omega (arith, bit-less e a p, bit-less e b p))

  -- who is in one already must be in none of the rest
  one_only : (ps : List ℕ) (none one : ℕ) → bit e none ≡ 0 → bit e (in_one_at_most none one ps) ≡ bit e (outside one ps)
  one_only [] none one h = refl
  one_only (p ∷ ps) none one h =
      one_only ps (less none p) (bit_or none (less one p)) (omega (arith, bit-less e none p))
      ∙ outside-alike ps (bit_or none (less one p)) (less one p) (omega (arith, bit-or e none (less one p)))

  outside-sub : (ps : List ℕ) (a : ℕ) → bit e a ≡ 0 → bit e (outside a ps) ≡ 0
  outside-sub ps a h = outside-alike ps a 0 (omega (arith, bit-zero e)) ∙ ap (bit e) (outside-none ps) ∙ bit-zero e

-- in none of the others: in none at all, or in this one and in one at most
module _ (w : ℕ) (ps : List ℕ) (p : ℕ) (qs : List ℕ) where
  abbrev all : List ℕ
  all = ps ++ (p ∷ qs)

  in-it : (e : ℕ) → bit e p ≡ 1 → bit e (outside w (ps ++ qs)) ≡ bit e (bit_or (outside w (ps ++ (p ∷ qs))) (bit_and (in_one_at_most w w (ps ++ (p ∷ qs))) p))
  in-it e h =
      let n = outside w ps in
      let o = in_one_at_most w w ps in
      let others : bit e (outside w (ps ++ qs)) ≡ bit e (outside n qs) = ap (bit e) (outside-append w ps qs) in
      let none : bit e (outside w (ps ++ (p ∷ qs))) ≡ 0 = ap (bit e) (outside-append w ps (p ∷ qs)) ∙ outside-sub e qs (less n p) (omega (arith, bit-less e n p, bit_le e n)) in
      let one : bit e (in_one_at_most w w (ps ++ (p ∷ qs))) ≡ bit e (outside n qs) =
      ap (bit e) (one-append w w ps (p ∷ qs))
      ∙ one_only e qs (less n p) (bit_or n (less o p)) (omega (arith, bit-less e n p, bit_le e n))
      ∙ outside-alike e qs (bit_or n (less o p)) n (omega (arith, bit-or e n (less o p), bit-less e o p, bit_le e o))
      in
      omega (arith, others, none, one, bit-or e (outside w all) (bit_and (in_one_at_most w w all) p), bit-and e (in_one_at_most w w all) p, bit_le e (in_one_at_most w w all))

  not-in-it : (e : ℕ) → bit e p ≡ 0 → bit e (outside w (ps ++ qs)) ≡ bit e (bit_or (outside w (ps ++ (p ∷ qs))) (bit_and (in_one_at_most w w (ps ++ (p ∷ qs))) p))
  not-in-it e h =
      let n = outside w ps in
      let others : bit e (outside w (ps ++ qs)) ≡ bit e (outside n qs) = ap (bit e) (outside-append w ps qs) in
      let none : bit e (outside w (ps ++ (p ∷ qs))) ≡ bit e (outside n qs) =
      ap (bit e) (outside-append w ps (p ∷ qs)) ∙ outside-alike e qs (less n p) n (omega (arith, bit-less e n p))
      in
      omega (arith, others, none, bit-or e (outside w all) (bit_and (in_one_at_most w w all) p), bit-and e (in_one_at_most w w all) p)

  pub others-are : outside w (ps ++ qs) ≡ bit_or (outside w (ps ++ (p ∷ qs))) (bit_and (in_one_at_most w w (ps ++ (p ∷ qs))) p)
  others-are = bit_ext _ _ (λ e. elim (dec_lt (bit e p) 1) [ yes h ↦ not-in-it e (omega arith) | no h ↦ in-it e (omega (arith, bit_le e p)) ])
