-- An array that is filled from the front, and sums over the first of a list. Assumes nothing.
use mathlib.Core.Path.{◌≡◌, refl, sym, ap, ap₂, ◌∙◌}
use mathlib.Core.Bool.{Bool, cond}
use mathlib.Core.List.{List, [], ◌∷◌, ◌++◌, map, map-append}
use Prim.Native.Nat.{ℕ, zero, suc, ◌+◌, ◌≤◌, ◌<◌}
use native.Mathlib.Numerals.{add-one}
use native.Mathlib.Omega.{arith}
use native.Mathlib.Decide.{dec_lt}
use borrow.Author.Tests.{lt-ltb, le-ltb}
use lib.Dec.{ltb}
use lib.ListN.{length, get_or, set, take, length-take}
use lib.Seq.{take-suc, take_all, get_or-take}
use Rattle.std.specs.List.{range_with_len}
use Rattle.model.specs.Lists.{range, total}
use Rattle.model.proofs.Lists.{total-append, range-get_or, range_length}

pub next-take : {A : Type 0} (xs : List A) (i : ℕ) (d : A) → i < length xs → take (i + 1) xs ≡ take i xs ++ get_or xs i d ∷ []
next-take xs i d h = ap (λ (n : ℕ). take n xs) (add-one i) ∙ take-suc xs i d h

-- the two words for a range
pub ranges : (a n : ℕ) → range_with_len a n ≡ range a n
ranges a zero = refl
ranges a (suc n) = rw (ranges (a + 1) n, add-one)

-- ---- filling

module _ {B : Type 0} where
  pub take_set_next : (r : List B) (i : ℕ) (x : B) → i < length r → take (i + 1) (set r i x) ≡ take i r ++ x ∷ []
  take_set_next [] i x h = absurd (omega arith)
  take_set_next (y ∷ r) zero x h = refl
  take_set_next (y ∷ r) (suc i) x h =
      ap (λ (n : ℕ). take n (set (y ∷ r) (suc i) x)) (add-one (suc i))
      ∙ ap {B = List B} (λ l. y ∷ l) (ap (λ (n : ℕ). take n (set r i x)) (sym (add-one i)) ∙ take_set_next r i x (omega arith))

module _ {A B : Type 0} where
  pub fill-next : (f : A → B) (xs : List A) (r : List B) (i : ℕ) (d : A) (x : B) → i < length xs → i < length r
      → take i r ≡ map f (take i xs) → x ≡ f (get_or xs i d) → take (i + 1) (set r i x) ≡ map f (take (i + 1) xs)
  fill-next f xs r i d x h k inv e =
      take_set_next r i x k
      ∙ ap₂ (λ (l m : List B). l ++ m) inv (ap {B = List B} (λ y. y ∷ []) e)
      ∙ sym (ap (map f) (next-take xs i d h) ∙ map-append f (take i xs) (get_or xs i d ∷ []))

-- an array of the values of f at 1, 2, .. up to n
module _ (n : ℕ) (f : ℕ → ℕ) where
  pub fill-numbers : (r : List ℕ) (i x : ℕ) → i < n → length r ≡ n → take i r ≡ map f (take i (range 1 n)) → x ≡ f (1 + i)
      → take (i + 1) (set r i x) ≡ map f (take (i + 1) (range 1 n))
  fill-numbers r i x h l inv e =
      fill-next f (range 1 n) r i 0 x (omega (arith, range_length 1 n)) (omega arith) inv (e ∙ ap f (sym (range-get_or 1 n i 0 h)))

  pub filled-numbers : (r : List ℕ) (i : ℕ) → n ≤ i → length r ≡ n → take i r ≡ map f (take i (range 1 n)) → r ≡ map f (range 1 n)
  filled-numbers r i h l inv = sym (take_all i r (omega arith)) ∙ inv ∙ ap (map f) (take_all i (range 1 n) (omega (arith, range_length 1 n)))

-- ---- sums, of which the first s count

module _ {A : Type 0} (f : A → ℕ) (xs : List A) (s i : ℕ) (d : A) where
  pub total-step : i < length xs → (b : Bool) → b ≡ ltb i s
      → total f (take i (take s xs)) + cond b (f (get_or xs i d)) 0 ≡ total f (take (i + 1) (take s xs))
  total-step h b e = go (dec_lt i s)
    where
      go : Dec (i < s) → total f (take i (take s xs)) + cond b (f (get_or xs i d)) 0 ≡ total f (take (i + 1) (take s xs))
      go (yes l) =
          let n = next-take (take s xs) i d (omega (arith, length-take s xs)) in
          rw (e, lt-ltb i s l)
          (sym (ap (total f) n ∙ total-append f (take i (take s xs)) (get_or (take s xs) i d ∷ []) ∙ ap (λ (k : ℕ). total f (take i (take s xs)) + k) (omega arith ∙ ap f (get_or-take s xs i d l))))
      go (no l) =
          let k : length (take s xs) ≤ i = omega (arith, length-take s xs) in
          rw (e, le-ltb i s (omega arith))
          (omega arith ∙ ap (total f) (take_all i (take s xs) k ∙ sym (take_all (i + 1) (take s xs) (omega arith))))

  pub total-whole : length xs ≤ i → total f (take i (take s xs)) ≡ total f (take s xs)
  total-whole h = ap (total f) (take_all i (take s xs) (omega (arith, length-take s xs)))
