-- The end of a line, and texts written one after the other by a loop over the first elements of a list. Assumes nothing.
use mathlib.Core.Path.{◌≡◌, sym, ap, ◌∙◌}
use Prim.Native.Nat.{ℕ, zero, suc, ◌+◌, ◌≤◌, ◌<◌}
use native.Mathlib.Numerals.{add-one}
use native.Mathlib.Omega.{arith}
use mathlib.Core.List.{List, [], ◌∷◌, ◌++◌, append-nil}
use lib.ListN.{length, get_or, set, take, length-append}
use lib.Seq.{take-suc, take_all}
use Rattle.std.specs.List.{flat_map}
use Rattle.model.specs.Text.{field_text}
use Rattle.model.specs.SheetText.{line_text}
use Rattle.model.proofs.Lists.{each_append}
use Rattle.text.specs.Put.{Wrote}
use Rattle.text.proofs.Writes.{kept, then, snoc, same_text}

-- ---- the end of a line

module _ (fs : List ℕ) where
  pub line-room : length (line_text fs) ≡ length (flat_map field_text fs) + 1
  unfolding line_text
  line-room = length-append (flat_map field_text fs) (10 ∷ [])

  pub line-end : {xs ys : List ℕ} {a n : ℕ} → Wrote (flat_map field_text fs) a xs ys n → n < length ys → Wrote (line_text fs) a xs (set ys n 10) (n + 1)
  unfolding line_text
  line-end w h = snoc 10 w h

-- ---- a loop over the first elements of a list

fits : {A : Type 0} (f : A → List ℕ) (d : A) (xs : List A) (i k : ℕ) → i < length xs → i < k
    → length (flat_map f (take i xs)) + length (f (get_or xs i d)) ≤ length (flat_map f (take k xs))
fits f d [] i k h l = absurd (omega arith)
fits f d (x ∷ xs) i zero h l = absurd (omega arith)
fits f d (x ∷ xs) zero (suc k) h l = omega (arith, length-append (f x) (flat_map f (take k xs)))
fits f d (x ∷ xs) (suc i) (suc k) h l =
    omega (
      arith,
      length-append (f x) (flat_map f (take i xs)),
      length-append (f x) (flat_map f (take k xs)),
      fits f d xs i k (omega arith) (omega arith),
    )

module _ {A : Type 0} (f : A → List ℕ) (d : A) (xs : List A) (i : ℕ) (h : i < length xs) where
  one_more : flat_map f (take (i + 1) xs) ≡ flat_map f (take i xs) ++ f (get_or xs i d)
  one_more =
      ap (λ (n : ℕ). flat_map f (take n xs)) (add-one i)
      ∙ ap (flat_map f) (take-suc xs i d h)
      ∙ each_append f (take i xs) (get_or xs i d ∷ [])
      ∙ ap (λ (l : List ℕ). flat_map f (take i xs) ++ l) (append-nil (f (get_or xs i d)))

  pub more-length : length (flat_map f (take (i + 1) xs)) ≡ length (flat_map f (take i xs)) + length (f (get_or xs i d))
  more-length = ap length one_more ∙ length-append (flat_map f (take i xs)) (f (get_or xs i d))

  pub turn : {bs cs ds : List ℕ} {at n r : ℕ} → Wrote (flat_map f (take i xs)) at bs cs n → Wrote (f (get_or xs i d)) n cs ds r
      → Wrote (flat_map f (take (i + 1) xs)) at bs ds r
  turn v w = same_text (sym one_more) (then v w)

  pub room : (k : ℕ) {bs cs : List ℕ} {at n : ℕ} → Wrote (flat_map f (take i xs)) at bs cs n → i < k
      → at + length (flat_map f (take k xs)) ≤ length bs → n + length (f (get_or xs i d)) ≤ length cs
  room k w l r = omega (arith, fits f d xs i k h l, kept w, w.next)

  -- the same over the whole list
  pub room-all : {bs cs : List ℕ} {at n : ℕ} → Wrote (flat_map f (take i xs)) at bs cs n → at + length (flat_map f xs) ≤ length bs
      → n + length (f (get_or xs i d)) ≤ length cs
  room-all w r = room (length xs) w h (omega (arith, ap length (ap (flat_map f) (take_all (length xs) xs (omega arith)))))
