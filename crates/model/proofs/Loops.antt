-- Laws for loops over the definitions' lists: a test of what stands from place i on, found, going on, done. Assumes nothing.
use mathlib.Core.Path.{◌≡◌, refl, sym, ap, ◌∙◌}
use Prim.Native.Nat.{ℕ, suc, ◌+◌, ◌-◌, ◌≤◌, ◌<◌, min}
use native.Mathlib.Numerals.{add-one}
use native.Mathlib.Omega.{arith}
use mathlib.Core.Bool.{Bool, true, false, not, ◌&&◌, ◌||◌}
use mathlib.Core.List.{List, ◌∷◌}
use lib.Dec.{eqb}
use lib.ListN.{length, get_or, take, drop, length-take, drop_of_length-le}
use lib.Seq.{drop-cons, get_or-take}
use Rattle.std.specs.List.{list_all, list_any}
use Rattle.model.specs.Lists.{range, distinct}

-- ---- a loop's rest: what stands from place i on

module _ {A : Type 0} (d : A) where
  pub drop-next : (xs : List A) (i : ℕ) → i < length xs → drop i xs ≡ get_or xs i d ∷ drop (i + 1) xs
  drop-next xs i h = rw (add-one i) (drop-cons xs i d h)

  pub every-next : (p : A → Bool) (xs : List A) (i : ℕ) → i < length xs
      → list_all p (drop i xs) ≡ (p (get_or xs i d) && list_all p (drop (i + 1) xs))
  every-next p xs i h = ap (list_all p) (drop-next xs i h)

  pub any_next : (p : A → Bool) (xs : List A) (i : ℕ) → i < length xs → list_any p (drop i xs) ≡ (p (get_or xs i d) || list_any p (drop (i + 1) xs))
  any_next p xs i h = ap (list_any p) (drop-next xs i h)

module _ {A : Type 0} where
  pub every-end : (p : A → Bool) (xs : List A) (i : ℕ) → length xs ≤ i → list_all p (drop i xs) ≡ true
  every-end p xs i h = ap (list_all p) (drop_of_length-le xs h)

  pub any-end : (p : A → Bool) (xs : List A) (i : ℕ) → length xs ≤ i → list_any p (drop i xs) ≡ false
  any-end p xs i h = ap (list_any p) (drop_of_length-le xs h)

-- ---- a loop that tests the first k elements in order: found, going on, done

module _ {A : Type 0} (p : A → Bool) (ys : List A) (k i : ℕ) where
  at_i : (d : A) → i < min k (length ys) → get_or (take k ys) i d ≡ get_or ys i d
  at_i d h = get_or-take k ys i d (omega arith)

  inside-k : i < min k (length ys) → i < length (take k ys)
  inside-k h = rw (length-take k ys) h

  past-k : min k (length ys) ≤ i → length (take k ys) ≤ i
  past-k h = rw (length-take k ys) h

  pub every-goes : list_all p (take k ys) ≡ list_all p (drop i (take k ys)) → i < min k (length ys) → (d : A) → p (get_or ys i d) ≡ true
      → list_all p (take k ys) ≡ list_all p (drop (i + 1) (take k ys))
  every-goes inv h d e = inv ∙ every-next d p (take k ys) i (inside-k h) ∙ rw (at_i d h, e)

  pub every-stops : list_all p (take k ys) ≡ list_all p (drop i (take k ys)) → i < min k (length ys) → (d : A) → p (get_or ys i d) ≡ false
      → false ≡ list_all p (take k ys)
  every-stops inv h d e = sym (inv ∙ every-next d p (take k ys) i (inside-k h) ∙ rw (at_i d h, e))

  pub every-done : list_all p (take k ys) ≡ list_all p (drop i (take k ys)) → min k (length ys) ≤ i → true ≡ list_all p (take k ys)
  every-done inv h = sym (inv ∙ every-end p (take k ys) i (past-k h))

-- the same for the test that all are different
module _ (ys : List ℕ) (k i : ℕ) (inv : distinct (take k ys) ≡ distinct (drop i (take k ys))) where
  distinct-next : i < min k (length ys)
      → distinct (take k ys) ≡ (not (list_any (eqb (get_or ys i 0)) (drop (i + 1) (take k ys))) && distinct (drop (i + 1) (take k ys)))
  distinct-next h =
      inv ∙ ap distinct (drop-next 0 (take k ys) i (inside-k (λ x. true) ys k i h)) ∙ rw (get_or-take k ys i 0 (omega arith))

  pub distinct-goes : i < min k (length ys) → list_any (eqb (get_or ys i 0)) (drop (i + 1) (take k ys)) ≡ false
      → distinct (take k ys) ≡ distinct (drop (i + 1) (take k ys))
  distinct-goes h e = distinct-next h ∙ rw e

  pub distinct-stops : i < min k (length ys) → list_any (eqb (get_or ys i 0)) (drop (i + 1) (take k ys)) ≡ true → false ≡ distinct (take k ys)
  distinct-stops h e = sym (distinct-next h ∙ rw e)

  pub distinct-done : min k (length ys) ≤ i → true ≡ distinct (take k ys)
  distinct-done h = sym (inv ∙ ap distinct (drop_of_length-le (take k ys) (past-k (λ x. true) ys k i h)))

-- ---- a loop that tests i, i + 1, .. below n

range-next : (n i : ℕ) → i < n → range i (n - i) ≡ i ∷ range (i + 1) (n - (i + 1))
range-next n i h = rw (add-one i, less-by-one) refl
  where
    less-by-one : n - i ≡ suc (n - suc i)
    less-by-one = omega arith

module _ (p : ℕ → Bool) (b : Bool) (n i : ℕ) (inv : b ≡ list_all p (range i (n - i))) where
  pub range-goes : i < n → p i ≡ true → b ≡ list_all p (range (i + 1) (n - (i + 1)))
  range-goes h e = inv ∙ ap (list_all p) (range-next n i h) ∙ rw e

  pub range-stops : i < n → p i ≡ false → b ≡ false
  range-stops h e = inv ∙ ap (list_all p) (range-next n i h) ∙ rw e

  pub range-done : n ≤ i → b ≡ true
  range-done h = let z : n - i ≡ 0 = omega arith in inv ∙ ap (λ (k : ℕ). list_all p (range i k)) z
