-- One step each of the definitions that the reader's loops go through. Assumes nothing.
use Prim.Native.Nat.{ℕ, suc, ◌+◌, ◌-◌, ◌*◌, ◌^◌, ◌%◌, ◌≤◌, ◌<◌}
use mathlib.Core.Path.{◌≡◌, refl, ap, sym, ◌∙◌}
use mathlib.Core.Bool.{Bool, true, false, cond, ◌||◌}
use mathlib.Core.List.{List, [], ◌∷◌, ◌++◌, map}
use native.Mathlib.Nat.{one-mul, add_comm, zero-add}
use native.Mathlib.Numerals.{add-one}
use native.Mathlib.Omega.{arith}
use borrow.Author.Tests.{eq-eqb, ne_eqb, eqb-false}
use lib.Bits.{bit_or, or_shifted_r}
use lib.Dec.{eqb}
use lib.ListN.{length, take, drop, get_or, set, replicate, length-drop, drop_of_length-le}
use Rattle.model.specs.Limits.{limits}
use Rattle.model.proofs.Words.{shifted}
use lib.Seq.{take_all}
use Rattle.model.proofs.Lists.{values-append, values_length, stored_next}
use Rattle.model.proofs.Loops.{drop-next}
use Rattle.model.specs.Lists.{range}
use Rattle.model.specs.Words.{word_where}
use Rattle.model.specs.Sheet.{after_spaces, value_at, first_group}
use Rattle.sheet.specs.Line.{line_length}

-- a whole rest, as a part `&l[i..]` gives it
pub rest : (l : List ℕ) (i : ℕ) → take (length l - i) (drop i l) ≡ drop i l
rest l i = take_all (length l - i) (drop i l) (simp length-drop (omega arith))

pub at-end : (l : List ℕ) (i : ℕ) → length l ≤ i → drop i l ≡ []
at-end l i h = drop_of_length-le l h

-- ---- bytes at place i

module _ (l : List ℕ) (i : ℕ) (h : i < length l) where
  pub spaces-more : get_or l i 0 ≡ 32 → after_spaces (drop i l) ≡ after_spaces (drop (i + 1) l)
  spaces-more e = rw (drop-next 0 l i h) (simp (eq-eqb _ _ e))

  pub spaces-stop : (get_or l i 0 ≡ 32 → ⊥) → after_spaces (drop i l) ≡ drop i l
  spaces-stop e = rw (drop-next 0 l i h) (simp (ne_eqb _ _ e))

  pub line-more : (get_or l i 0 ≡ 10 → ⊥) → line_length (drop i l) ≡ suc (line_length (drop (i + 1) l))
  line-more e = rw (drop-next 0 l i h) (simp (ne_eqb _ _ e))

  line_on : (j : ℕ) → j ≡ i + 1 → (get_or l i 0 ≡ 10 → ⊥) → line_length (drop i l) ≡ suc (line_length (drop j l))
  line_on j q e = rw q (line-more e)

  pub line-stop : get_or l i 0 ≡ 10 → line_length (drop i l) ≡ 0
  line-stop e = rw (drop-next 0 l i h) (simp (eq-eqb _ _ e))

-- ---- bytes of which none is a 10

or-false : (a b : Bool) → (a || b) ≡ false → (a ≡ false) × (b ≡ false)
or-false true b e = let z : ◌≡◌ {A = ℕ} 0 1 = cc in absurd (omega arith)
or-false false b e = (refl, e)

module _ (s : List ℕ) where
  -- whether one of four bytes is a 10
  abbrev four : ℕ → ℕ → ℕ → ℕ → Bool
  four a b c d = ((eqb (get_or s a 0) 10 || eqb (get_or s b 0) 10) || eqb (get_or s c 0) 10) || eqb (get_or s d 0) 10

  four-clear : (a b c d e : ℕ) → b ≡ a + 1 → c ≡ b + 1 → d ≡ c + 1 → e ≡ d + 1 → e ≤ length s → four a b c d ≡ false
      → line_length (drop a s) ≡ 4 + line_length (drop e s)
  four-clear a b c d e p q r t h z =
      let x = or-false ((eqb (get_or s a 0) 10 || eqb (get_or s b 0) 10) || eqb (get_or s c 0) 10) (eqb (get_or s d 0) 10) z in
      let y = or-false (eqb (get_or s a 0) 10 || eqb (get_or s b 0) 10) (eqb (get_or s c 0) 10) x.0 in
      let w = or-false (eqb (get_or s a 0) 10) (eqb (get_or s b 0) 10) y.0 in
      omega (
        arith,
        line_on s a (omega arith) b p (eqb-false (get_or s a 0) 10 w.0),
        line_on s b (omega arith) c q (eqb-false (get_or s b 0) 10 w.1),
        line_on s c (omega arith) d r (eqb-false (get_or s c 0) 10 y.1),
        line_on s d (omega arith) e t (eqb-false (get_or s d 0) 10 x.1),
      )

  pub sixteen-clear : (i : ℕ) → i + 16 ≤ length s
      → (((four i (i + 1) (i + 2) (i + 3) || four (i + 4) (i + 5) (i + 6) (i + 7)) || four (i + 8) (i + 9) (i + 10) (i + 11)) || four (i + 12) (i + 13) (i + 14) (i + 15)) ≡ false
      → line_length (drop i s) ≡ 16 + line_length (drop (i + 16) s)
  sixteen-clear i h z =
      let a = four i (i + 1) (i + 2) (i + 3) in
      let b = four (i + 4) (i + 5) (i + 6) (i + 7) in
      let c = four (i + 8) (i + 9) (i + 10) (i + 11) in
      let x = or-false ((a || b) || c) (four (i + 12) (i + 13) (i + 14) (i + 15)) z in
      let y = or-false (a || b) c x.0 in
      let w = or-false a b y.0 in
      omega (
        arith,
        four-clear i (i + 1) (i + 2) (i + 3) (i + 4) (omega arith) (omega arith) (omega arith) (omega arith) (omega arith) w.0,
        four-clear (i + 4) (i + 5) (i + 6) (i + 7) (i + 8) (omega arith) (omega arith) (omega arith) (omega arith) (omega arith) w.1,
        four-clear (i + 8) (i + 9) (i + 10) (i + 11) (i + 12) (omega arith) (omega arith) (omega arith) (omega arith) (omega arith) y.1,
        four-clear (i + 12) (i + 13) (i + 14) (i + 15) (i + 16) (omega arith) (omega arith) (omega arith) (omega arith) (omega arith) x.1,
      )

pub spaces-fewer : (l : List ℕ) → length (after_spaces l) ≤ length l
spaces-fewer [] = omega arith
spaces-fewer (b ∷ bs) = go (eqb b 32) (spaces-fewer bs)
  where
    go : (t : Bool) → length (after_spaces bs) ≤ length bs → length (cond t (after_spaces bs) (b ∷ bs)) ≤ suc (length bs)
    go true h = omega arith
    go false h = omega arith

-- ---- a constraint line

-- the field of its first group, by its code
pub first-is : (l : List ℕ) (code a : ℕ) → code ≡ value_at l 1 → a ≡ cond (eqb code 6) 3 2 → a ≡ first_group l
unfolding first_group
first-is l code a p q = q ∙ ap (λ (x : ℕ). cond (eqb x 6) 3 2) p

-- ---- words of marks

pub word_more : (p : ℕ → Bool) (e : ℕ) → word_where p (e + 1) ≡ word_where p e + cond (p e) (2 ^ e) 0
unfolding word_where
word_more p e = rw add-one

pub or-bit : (w e : ℕ) → e < limits.entrants → w < 2 ^ e → bit_or w (1 * 2 ^ e % 2 ^ limits.word) ≡ w + 2 ^ e
or-bit w e h k =
    ap (bit_or w) (shifted e (omega arith) ∙ sym (one-mul (2 ^ e)))
    ∙ or_shifted_r 1 e w k
    ∙ simp one-mul (add_comm (2 ^ e) w)

-- ---- a list stored place by place over zeros

-- f 0, .. f (k - 1), then zeros
pub store_next : (f : ℕ → ℕ) (m i : ℕ) → i < m
    → set (map f (range 0 i) ++ replicate (m - i) 0) i (f i) ≡ map f (range 0 (i + 1)) ++ replicate (m - (i + 1)) 0
store_next f m i h =
    let last : map f (range 0 (i + 1)) ≡ map f (range 0 i) ++ (f i ∷ []) = values-append f 0 i 1 ∙ rw (zero-add i) in
    stored_next (map f (range 0 i)) m i 0 (f i) (values_length f 0 i) h
    ∙ ap (λ (l : List ℕ). l ++ replicate (m - (i + 1)) 0) (sym last)
