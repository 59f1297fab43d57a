-- Laws of texts that are written one after the other while each fits. Assumes nothing.
use mathlib.Core.Path.{◌≡◌, refl, sym, ap, ap₂, ◌∙◌}
use mathlib.Core.List.{List, ◌++◌, append-nil}
use Prim.Native.Nat.{ℕ, zero, suc, ◌+◌, ◌-◌, ◌≤◌, ◌<◌}
use native.Mathlib.Omega.{arith}
use native.Mathlib.Decide.{dec_le}
use borrow.Author.Tests.{le-leb, lt-leb}
use lib.ListN.{length, length-append}
use Rattle.std.specs.List.{flat_map}
use Rattle.model.specs.Lists.{range}
use Rattle.model.proofs.Lists.{each_append, each-range_ext, range-append}
use Rattle.text.specs.Put.{Wrote}
use Rattle.text.proofs.Writes.{done, kept, then, same_text}
use Rattle.cnf.specs.Run.{fit_count, Ran}

module _ (f : ℕ → List ℕ) where
  abbrev texts : ℕ → ℕ → List ℕ
  texts x n = flat_map f (range x n)

  -- ---- how many fit

  pub fit-more : (k x room : ℕ) → length (f x) ≤ room → fit_count f (suc k) x room ≡ suc (fit_count f k (suc x) (room - length (f x)))
  unfolding fit_count
  fit-more k x room h = rw (le-leb (length (f x)) room h, fit_count)

  pub fit_none : (k x room : ℕ) → room < length (f x) → fit_count f k x room ≡ 0
  unfolding fit_count
  fit_none zero x room h = refl
  fit_none (suc k) x room h = rw (lt-leb (length (f x)) room h, fit_count)

  pub fit-most : (k x room : ℕ) → fit_count f k x room ≤ k
  unfolding fit_count
  fit-most zero x room = omega arith
  fit-most (suc k) x room = go (dec_le (length (f x)) room) (fit-most k (suc x) (room - length (f x)))
    where
      go : Dec (length (f x) ≤ room) → fit_count f k (suc x) (room - length (f x)) ≤ k → fit_count f (suc k) x room ≤ suc k
      go (yes h) i = omega (arith, fit-more k x room h)
      go (no h) i = omega (arith, fit_none (suc k) x room (omega arith))

  -- the texts of a first one and of the rest
  first-length : (x n : ℕ) → length (texts x (suc n)) ≡ length (f x) + length (texts (suc x) n)
  first-length x n = length-append (f x) (texts (suc x) n)

  -- the first that does not fit
  pub fit-stop : (k x room : ℕ) → fit_count f k x room < k
      → room - length (texts x (fit_count f k x room)) < length (f (x + fit_count f k x room))
  fit-stop zero x room h = absurd (omega arith)
  fit-stop (suc k) x room h = go (dec_le (length (f x)) room) (fit-stop k (suc x) (room - length (f x)))
    where
      n : ℕ
      n = fit_count f k (suc x) (room - length (f x))

      go : Dec (length (f x) ≤ room) → (n < k → room - length (f x) - length (texts (suc x) n) < length (f (suc x + n))) → room - length (texts x (fit_count f (suc k) x room)) < length (f (x + fit_count f (suc k) x room))
      go (yes l) ih =
          let e = fit-more k x room l in
          let i = ih (omega (arith, e)) in
          let p : x + suc n ≡ suc x + n = omega arith in
          rw e (omega (arith, first-length x n, ap (λ (j : ℕ). length (f j)) p, i))
      go (no l) ih =
          let e = fit_none (suc k) x room (omega arith) in
          let p : x + 0 ≡ x = omega arith in
          rw e (omega (arith, ap (λ (j : ℕ). length (f j)) p))

  -- those of j and of k more
  pub fit_all : (j k x room : ℕ) → fit_count f j x room ≡ j → fit_count f (j + k) x room ≡ j + fit_count f k (x + j) (room - length (texts x j))
  fit_all zero k x room h =
      let p : 0 + k ≡ k = omega arith in
      let q : x ≡ x + 0 = omega arith in
      let r : room ≡ room - 0 = omega arith in
      ap (λ (i : ℕ). fit_count f i x room) p ∙ ap₂ (λ (y z : ℕ). fit_count f k y z) q r ∙ omega arith
  fit_all (suc j) k x room h = go (dec_le (length (f x)) room) (fit_all j k (suc x) (room - length (f x)))
    where
      left : ℕ
      left = room - length (f x)

      go : Dec (length (f x) ≤ room) → (fit_count f j (suc x) left ≡ j → fit_count f (j + k) (suc x) left ≡ j + fit_count f k (suc x + j) (left - length (texts (suc x) j)))
          → fit_count f (suc j + k) x room ≡ suc j + fit_count f k (x + suc j) (room - length (texts x (suc j)))
      go (yes l) ih =
          let s : suc j + k ≡ suc (j + k) = omega arith in
          let i = ih (omega (arith, fit-more j x room l)) in
          let q : suc x + j ≡ x + suc j = omega arith in
          let r : room - length (f x) - length (texts (suc x) j) ≡ room - length (texts x (suc j)) = omega (arith, first-length x j) in
          let e = ap₂ (λ (y z : ℕ). fit_count f k y z) q r in
          ap (λ (n : ℕ). fit_count f n x room) s ∙ fit-more (j + k) x room l ∙ omega (arith, i, e)
      go (no l) ih = absurd (omega (arith, fit_none (suc j) x room (omega arith)))

  pub fit-short : (j k x room : ℕ) → fit_count f j x room < j → fit_count f (j + k) x room ≡ fit_count f j x room
  fit-short zero k x room h = absurd (omega arith)
  fit-short (suc j) k x room h = go (dec_le (length (f x)) room) (fit-short j k (suc x) (room - length (f x)))
    where
      go : Dec (length (f x) ≤ room)
          → (fit_count f j (suc x) (room - length (f x)) < j → fit_count f (j + k) (suc x) (room - length (f x)) ≡ fit_count f j (suc x) (room - length (f x))) → fit_count f (suc j + k) x room ≡ fit_count f (suc j) x room
      go (yes l) ih =
          let s : suc j + k ≡ suc (j + k) = omega arith in
          let e = fit-more j x room l in
          ap (λ (n : ℕ). fit_count f n x room) s ∙ fit-more (j + k) x room l ∙ omega (arith, e, ih (omega (arith, e)))
      go (no l) ih = fit_none (suc j + k) x room (omega arith) ∙ sym (fit_none (suc j) x room (omega arith))

  -- ---- a run

  module _ {x at : ℕ} {xs : List ℕ} where
    pub ran-zero : (k : ℕ) → k ≡ 0 → at ≤ length xs → Ran f k x at xs xs x at
    unfolding fit_count
    ran-zero k e h = rw e (record { next = omega arith; wrote = done at xs h })

    pub ran-full : (k : ℕ) → at ≤ length xs → length xs - at < length (f x) → Ran f k x at xs xs x at
    ran-full k h l =
        let e = fit_none k x (length xs - at) l in
        record { next = omega (arith, e); wrote = rw e (done at xs h) }

    pub ran-one : {ys : List ℕ} {y r : ℕ} → Wrote (f x) at xs ys r → y ≡ x + 1 → Ran f 1 x at xs ys y r
    unfolding fit_count
    ran-one w e =
        let n = fit-more 0 x (length xs - at) (omega (arith, w.next, w.inside)) in
        record { next = omega (arith, n); wrote = rw n (same_text (sym (append-nil (f x))) w) }

    module _ {ys : List ℕ} {y a j : ℕ} (u : Ran f j x at xs ys y a) where
      pub ran-from : (x ≤ y) × (y ≤ x + j)
      ran-from = (omega (arith, u.next), omega (arith, u.next, fit-most j x (length xs - at)))

      pub ran-kept : (length ys ≡ length xs) × (a ≤ length ys)
      ran-kept = let w = u.wrote in let k = kept w in (k, omega (arith, w.inside, k))

      -- the next one does not fit
      pub ran-stop : y < x + j → length ys - a < length (f y)
      ran-stop h =
          let n : ℕ = fit_count f j x (length xs - at) in
          let w = u.wrote in
          let e = u.next in
          omega (arith, fit-stop j x (length xs - at) (omega (arith, e)), ap (λ (i : ℕ). length (f i)) e, w.next, kept w)

      pub ran-short : (k n : ℕ) → y < x + j → j + k ≡ n → Ran f n x at xs ys y a
      ran-short k n h e =
          let s = fit-short j k x (length xs - at) (omega (arith, u.next)) in
          rw (← e) (record { next = omega (arith, s, u.next); wrote = rw s u.wrote })

      pub ran_then : {zs : List ℕ} {z b : ℕ} (k n : ℕ) → y ≡ x + j → j + k ≡ n → Ran f k y a ys zs z b → Ran f n x at xs zs z b
      ran_then {zs} {z} {b} k n h e v =
          let all : fit_count f j x (length xs - at) ≡ j = omega (arith, u.next) in
          let w : Wrote (texts x j) at xs ys a = same_text (ap (λ (i : ℕ). texts x i) all) u.wrote in
          let r : length xs - at - length (texts x j) ≡ length ys - a = omega (arith, w.next, kept w) in
          let i : ℕ = fit_count f k y (length ys - a) in
          let s : fit_count f (j + k) x (length xs - at) ≡ j + i =
          fit_all j k x (length xs - at) all ∙ ap₂ (λ (p q : ℕ). j + fit_count f k p q) (sym h) r in
          let t : texts x j ++ texts y i ≡ texts x (j + i) =
          ap (λ (p : ℕ). texts x j ++ texts p i) h ∙ sym (ap (flat_map f) (range-append x j i) ∙ each_append f (range x j) (range (x + j) i)) in
          rw (← e) (record { next = omega (arith, s, v.next); wrote = rw s (same_text t (then w v.wrote)) })

-- ---- of texts that are the same

module _ (f g : ℕ → List ℕ) where
  fit_same : (k x room : ℕ) → ((i : ℕ) → x ≤ i → i < x + k → f i ≡ g i) → fit_count f k x room ≡ fit_count g k x room
  unfolding fit_count
  fit_same zero x room h = refl
  fit_same (suc k) x room h = go (dec_le (length (g x)) room) (fit_same k (suc x) (room - length (f x)) (λ i p q. h i (omega arith) (omega arith)))
    where
      e : f x ≡ g x
      e = h x (omega arith) (omega arith)

      go : Dec (length (g x) ≤ room) → fit_count f k (suc x) (room - length (f x)) ≡ fit_count g k (suc x) (room - length (f x))
          → fit_count f (suc k) x room ≡ fit_count g (suc k) x room
      go (yes l) ih =
          fit-more f k x room (omega (arith, ap length e))
          ∙ ap suc (ih ∙ ap (λ (t : List ℕ). fit_count g k (suc x) (room - length t)) e)
          ∙ sym (fit-more g k x room l)
      go (no l) ih = fit_none f (suc k) x room (omega (arith, ap length e)) ∙ sym (fit_none g (suc k) x room (omega arith))

  pub ran-same : {k x at y a : ℕ} {xs ys : List ℕ} → ((i : ℕ) → x ≤ i → i < x + k → f i ≡ g i) → Ran f k x at xs ys y a → Ran g k x at xs ys y a
  ran-same {k} {x} {at} {y} {a} {xs} {ys} h u =
      let e = fit_same k x (length xs - at) h in
      let n : ℕ = fit_count f k x (length xs - at) in
      let t = each-range_ext f g x n (λ i p q. h i p (omega (arith, fit-most f k x (length xs - at)))) in
      record { next = omega (arith, e, u.next); wrote = rw (← e) (same_text t u.wrote) }
