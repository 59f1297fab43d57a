-- Writes of the values' text, and its length. Assumes nothing.
use Prim.Native.Nat.{ℕ, ◌+◌, ◌*◌, ◌≤◌, ◌<◌}
use mathlib.Core.Path.{◌≡◌, refl, ap, ◌∙◌}
use mathlib.Core.Bool.{not, Bool, true, false, cond}
use mathlib.Core.List.{List, [], ◌∷◌, ◌++◌}
use native.Mathlib.Omega.{arith}
use borrow.Author.Tests.{eq-eqb, ne_eqb, lt-ltb, le-ltb}
use lib.Dec.{ltb, eqb}
use lib.ListN.{length, get_or, take, length-append}
use Rattle.model.specs.declared.Written.{Written}
use Rattle.model.specs.declared.Written.TheVariants.{Bytes, Refused}
use Rattle.model.specs.Lists.{stop}
use Rattle.model.specs.Limits.{limits}
use Rattle.model.specs.Assignment.{is_said}
use Rattle.model.specs.Text.{decimal, written_refusal, written_length}
use Rattle.encoding_laws.proofs.Decimal.{decimal-bound}
use Rattle.text.specs.Put.{Wrote, placed, place_after}
use Rattle.text.proofs.Writes.{then, kept, front}
use Rattle.std.proofs.lemmas.List.Sums.{count_by-le-length}
use Rattle.answer.specs.Values.{fitted, value_text, value_at, said_text, values_text, unsaid_count, written_text, text_refusal, text_length, text_buffer}
use Rattle.answer.proofs.Writing.{then-put, each-length, fits}

-- ---- a value

module _ (x v : ℕ) where
  pub value-true : x ≡ 1 → value_text x v ≡ (32 ∷ []) ++ decimal v
  unfolding value_text
  value-true e = rw (eq-eqb x 1 e)

  pub value-false : (x ≡ 1 → ⊥) → x ≡ 2 → value_text x v ≡ (32 ∷ 45 ∷ []) ++ decimal v
  unfolding value_text
  value-false n e = rw (ne_eqb x 1 n, eq-eqb x 2 e)

  pub value_none : (x ≡ 1 → ⊥) → (x ≡ 2 → ⊥) → value_text x v ≡ []
  unfolding value_text
  value_none n m = rw (ne_eqb x 1 n, ne_eqb x 2 m)

  pub value-length : v ≤ limits.variables → length (value_text x v) ≤ 7
  unfolding value_text
  value-length h = go (eqb x 1) (eqb x 2)
    where
      go : (a b : Bool) → length (cond a ((32 ∷ []) ++ decimal v) (cond b ((32 ∷ 45 ∷ []) ++ decimal v) [])) ≤ 7
      go true b = omega (arith, decimal-bound 4 v (omega arith))
      go false true = omega (arith, decimal-bound 4 v (omega arith))
      go false false = omega arith

-- ---- the line

module _ (values : List ℕ) where
  said-length : length values ≤ limits.variables → length (said_text values) ≤ 7 * limits.variables
  unfolding said_text
  said-length h =
      omega (arith, each-length (value_at values) 7 (length values) (λ i lt. value-length (get_or values i 0) (i + 1) (omega arith)))

  line-parts : length (values_text values) ≡ 1 + length (said_text values) + 1
  unfolding values_text
  line-parts = simp length-append

  pub values_length : length values ≤ limits.variables → length (values_text values) ≤ 7 * limits.variables + 2
  values_length h = omega (arith, said-length h, line-parts)

  pub letter-room : (xs : List ℕ) → length (values_text values) ≤ length xs → 0 + 1 ≤ length xs
  letter-room xs room = omega (arith, line-parts)

  pub said-room : (xs : List ℕ) → length (values_text values) ≤ length xs → {ys : List ℕ} {n : ℕ} → Wrote (118 ∷ []) 0 xs ys n → n + length (said_text values) ≤ length ys
  said-room xs room v = omega (arith, line-parts, kept v, v.next)

  pub line_wrote : (xs : List ℕ) → length (values_text values) ≤ length xs → {ys zs us : List ℕ} {n m k : ℕ} → Wrote (118 ∷ []) 0 xs ys n
      → Wrote (said_text values) n ys zs m → k ≡ place_after (10 ∷ []) m (length zs) → us ≡ placed (10 ∷ []) m zs → Wrote (values_text values) 0 xs us k
  unfolding values_text
  line_wrote xs room v e p q = then-put (10 ∷ []) (then v e) p q (omega (arith, room))

-- ---- a text of values, measured in an array of its own and copied

module _ (values text buf : List ℕ) where
  pub many : limits.variables < length values → (Refused 26 ≡ written_text values text (length buf)) × (buf ≡ text_buffer values text buf)
  unfolding written_text text_buffer
  many h = (rw (lt-ltb limits.variables (length values) h), rw (lt-ltb limits.variables (length values) h))

  -- what `copy_out` gives of the front of the array that the text was written to
  pub copied : length values ≤ limits.variables → {xs ys : List ℕ} {n : ℕ} → Wrote text 0 xs ys n → {r : Written} {after : List ℕ}
      → r ≡ fitted (take n ys) (length buf) → after ≡ placed (take n ys) 0 buf → (r ≡ written_text values text (length buf)) × (after ≡ text_buffer values text buf)
  unfolding written_text text_buffer
  copied few w p q = (
    rw (le-ltb limits.variables (length values) few) (p ∙ ap (λ (t : List ℕ). fitted t (length buf)) (front w)),
    rw (le-ltb limits.variables (length values) few) (q ∙ ap (λ (t : List ℕ). placed t 0 buf) (front w)),
  )

-- ---- what a caller asks

pub unsaid-le : (values : List ℕ) → unsaid_count values ≤ length values
unfolding unsaid_count
unsaid-le values = count_by-le-length (λ x. not (is_said x)) values

pub text-inside : (values text : List ℕ) (room n : ℕ) → Bytes n ≡ written_text values text room → n ≤ room
unfolding written_text
text-inside values text room n e = go (ltb limits.variables (length values)) e
  where
    go : (t : Bool) → Bytes n ≡ cond t (Refused 26) (cond (ltb room (length text)) (Refused 24) (Bytes (length text))) → n ≤ room
    go true e = let z : ◌≡◌ {A = ℕ} 0 1 = cc in omega arith
    go false e = fits room (length text) n e

-- ---- the number and the value of the answer

module _ (values text : List ℕ) (room : ℕ) where
  refusal_is : written_refusal (written_text values text room) ≡ text_refusal values text room
  unfolding written_text text_refusal
  refusal_is = go (ltb limits.variables (length values)) (ltb room (length text))
    where
      go : (x y : Bool) → written_refusal (cond x (Refused 26) (cond y (Refused 24) (Bytes (length text)))) ≡ stop x 26 (stop y 24 0)
      go true y = refl
      go false true = refl
      go false false = refl

  length-is : written_length (written_text values text room) ≡ text_length values text room
  unfolding written_text text_length text_refusal
  length-is = go (ltb limits.variables (length values)) (ltb room (length text))
    where
      go : (x y : Bool) → written_length (cond x (Refused 26) (cond y (Refused 24) (Bytes (length text)))) ≡ cond (eqb (stop x 26 (stop y 24 0)) 0) (length text) 0
      go true y = refl
      go false true = refl
      go false false = refl

  pub with_number : {A : Type 0} (w : Written) → (w ≡ written_text values text room) × A
      → (w ≡ written_text values text room) × (A × ((written_refusal w ≡ text_refusal values text room) × (written_length w ≡ text_length values text room)))
  with_number w (e, a) = (e, (a, (ap written_refusal e ∙ refusal_is, ap written_length e ∙ length-is)))
