-- Laws of marks: one more, one less, the zeros below a word's lowest one, and a row of an index. Assumes nothing.
use mathlib.Core.Path.{◌≡◌, refl, sym, ap, ◌∙◌, subst}
use Prim.Native.Nat.{ℕ, zero, suc, ◌+◌, ◌-◌, ◌*◌, ◌/◌, ◌%◌, ◌^◌, ◌≤◌, ◌<◌}
use native.Mathlib.Decide.{ℕ_discrete}
use native.Mathlib.Omega.{arith}
use native.Mathlib.Nat.{lt_of_not-le, zero-add, add-zero, pow-succ', div-div-eq-div-mul}
use mathlib.Core.Bool.{Bool, true, false, not, ◌&&◌, ◌||◌}
use mathlib.Core.List.{List, [], ◌∷◌}
use borrow.Author.Tests.{eq-eqb, ne_eqb}
use lib.Bits.{bit_or}
use lib.Count.{count_trailing_zeros, under}
use lib.Dec.{eqb}
use lib.ListN.{length, get_or, set, length-set, get_or-eq_default}
use lib.Seq.{get_or-set_same, get_or-set_other}
use Rattle.model.specs.Words.{less, has}
use Rattle.model.proofs.Lists.{or-false}
use Rattle.model.proofs.Words.{has-zero, has-or, has_first, has-next}
use Rattle.model.proofs.Flags.{flag-set, flag_cleared}
use Rattle.marks.specs.Marks.{marked, with_mark, without_mark, mark_within, next_mark, NoneFrom, AddsRow}

-- ---- one more, and one less

module _ (ws : List ℕ) (i : ℕ) (h : i / 64 < length ws) where
  pub mark_set : (j : ℕ) → marked (with_mark i ws) j ≡ (marked ws j || eqb i j)
  unfolding marked with_mark
  mark_set j = flag-set ws i h j

  pub mark-cleared : (j : ℕ) → marked (without_mark i ws) j ≡ (marked ws j && not (eqb i j))
  unfolding marked without_mark
  mark-cleared j = flag_cleared ws i h j

-- past the end
set_past : (ws : List ℕ) (i x : ℕ) → length ws ≤ i → set ws i x ≡ ws
set_past [] i x h = refl
set_past (w ∷ ws) zero x h = absurd (omega arith)
set_past (w ∷ ws) (suc i) x h = ap {B = List ℕ} (λ us. w ∷ us) (set_past ws i x (omega arith))

pub mark-past : (ws : List ℕ) (i : ℕ) → length ws ≤ i / 64 → ws ≡ with_mark i ws
unfolding with_mark
mark-past ws i h = sym (set_past ws (i / 64) _ h)

pub unmark-past : (ws : List ℕ) (i : ℕ) → length ws ≤ i / 64 → ws ≡ without_mark i ws
unfolding without_mark
unmark-past ws i h = sym (set_past ws (i / 64) _ h)

pub row-past : (index : List ℕ) (g : ℕ) (ws : List ℕ) → length index ≤ 4 * g → AddsRow index g ws ws
unfolding marked
row-past index g ws h = (refl, λ j l. sym (ap (λ (b : Bool). has (get_or ws (j / 64) 0) (j % 64) || b) (ap (λ (x : ℕ). has x ((256 * g + j) % 64)) (get_or-eq_default index 0 (omega arith)) ∙ has-zero ((256 * g + j) % 64)) ∙ or-false _))

pub mark-length : (ws : List ℕ) (i : ℕ) → length (with_mark i ws) ≡ length ws
unfolding with_mark
mark-length ws i = length-set ws (i / 64) (bit_or (get_or ws (i / 64) 0) (2 ^ (i % 64)))

pub unmark-length : (ws : List ℕ) (i : ℕ) → length (without_mark i ws) ≡ length ws
unfolding without_mark
unmark-length ws i = length-set ws (i / 64) (less (get_or ws (i / 64) 0) (2 ^ (i % 64)))

-- ---- the next

trailing_none : (k n e : ℕ) → e < count_trailing_zeros k n → has n e ≡ false
unfolding count_trailing_zeros
trailing_none zero n e h = absurd (omega arith)
trailing_none (suc k) n e h = go (n % 2) refl (trailing_none k (n / 2)) e h
  where
    go : (d : ℕ) → n % 2 ≡ d → ((e : ℕ) → e < count_trailing_zeros k (n / 2) → has (n / 2) e ≡ false) → (e : ℕ) → e < under d (count_trailing_zeros k (n / 2)) → has n e ≡ false
    go zero q f zero h = has_first n ∙ ne_eqb (n % 2) 1 (λ z. omega arith)
    go zero q f (suc e) h = has-next n e ∙ f e (omega arith)
    go (suc d) q f e h = absurd (omega arith)

has_shift : (k w e : ℕ) → has (w / 2 ^ k) e ≡ has w (k + e)
has_shift zero w e =
    let a : w / 2 ^ 0 ≡ w = omega arith in
    let b : e ≡ 0 + e = omega arith in
    ap (λ (x : ℕ). has x e) a ∙ ap (has w) b
has_shift (suc k) w e =
    let a : w / 2 ^ suc k ≡ w / 2 / 2 ^ k = ap (λ (x : ℕ). w / x) (pow-succ' 2 k) ∙ sym (div-div-eq-div-mul w 2 (2 ^ k)) in
    let b : suc (k + e) ≡ suc k + e = omega arith in
    ap (λ (x : ℕ). has x e) a ∙ has_shift k (w / 2) e ∙ sym (has-next w (k + e)) ∙ ap (has w) b

trailing_some : (k n : ℕ) → count_trailing_zeros k n < k → has n (count_trailing_zeros k n) ≡ true
unfolding count_trailing_zeros
trailing_some zero n h = absurd (omega arith)
trailing_some (suc k) n h = go (n % 2) refl (trailing_some k (n / 2)) h
  where
    go : (d : ℕ) → n % 2 ≡ d → (count_trailing_zeros k (n / 2) < k → has (n / 2) (count_trailing_zeros k (n / 2)) ≡ true)
        → under d (count_trailing_zeros k (n / 2)) < suc k → has n (under d (count_trailing_zeros k (n / 2))) ≡ true
    go zero q f h = has-next n (count_trailing_zeros k (n / 2)) ∙ f (omega arith)
    go (suc d) q f h = has_first n ∙ eq-eqb (n % 2) 1 (omega arith)

within-here : (ws : List ℕ) (d p : ℕ) → marked ws p ≡ true → mark_within (suc d) ws p ≡ p
unfolding mark_within
within-here ws d p e = rw (e, mark_within)

within-next : (ws : List ℕ) (d p : ℕ) → marked ws p ≡ false → mark_within (suc d) ws p ≡ mark_within d ws (suc p)
unfolding mark_within
within-next ws d p e = rw (e, mark_within)

-- what is not marked is passed over
within_skips : (ws : List ℕ) (k d p : ℕ) → NoneFrom ws p (p + k) → mark_within (k + d) ws p ≡ mark_within d ws (p + k)
unfolding mark_within
within_skips ws zero d p none = rw (zero-add d, add-zero p)
within_skips ws (suc k) d p none =
    let e : suc k + d ≡ suc (k + d) = omega arith in
    let f : suc p + k ≡ p + suc k = omega arith in
    ap (λ (x : ℕ). mark_within x ws p) e
    ∙ within-next ws (k + d) p (none p (omega arith) (omega arith))
    ∙ within_skips ws k d (suc p) (λ i a b. none i (omega arith) (omega arith))
    ∙ ap (mark_within d ws) f

pub next_skips : (ws : List ℕ) (p q : ℕ) → p ≤ q → q ≤ 256 → NoneFrom ws p q → next_mark ws p ≡ next_mark ws q
unfolding next_mark
next_skips ws p q a b none =
    let e : 256 - p ≡ (q - p) + (256 - q) = omega arith in
    let f : p + (q - p) ≡ q = omega arith in
    ap (λ (d : ℕ). mark_within d ws p) e
    ∙ within_skips ws (q - p) (256 - q) p (λ i x y. none i x (omega arith))
    ∙ ap (mark_within (256 - q) ws) f

pub next_here : (ws : List ℕ) (p : ℕ) → p < 256 → marked ws p ≡ true → next_mark ws p ≡ p
unfolding next_mark
next_here ws p h e =
    let s : 256 - p ≡ suc (255 - p) = omega arith in
    ap (λ (d : ℕ). mark_within d ws p) s ∙ within-here ws (255 - p) p e

pub next_past : (ws : List ℕ) (p : ℕ) → 256 ≤ p → next_mark ws p ≡ p
unfolding next_mark mark_within
next_past ws p h =
    let z : 256 - p ≡ 0 = omega arith in
    ap (λ (d : ℕ). mark_within d ws p) z

-- so there is none on the way
within_none : (ws : List ℕ) (d p : ℕ) → (p ≤ mark_within d ws p) × NoneFrom ws p (mark_within d ws p)
unfolding mark_within
within_none ws zero p = (omega arith, λ i a b. absurd (omega arith))
within_none ws (suc d) p = go (marked ws p) refl (within_none ws d (suc p))
  where
    Found : ℕ → Type 0
    Found r = (p ≤ r) × NoneFrom ws p r

    go : (b : Bool) → marked ws p ≡ b → (suc p ≤ mark_within d ws (suc p)) × NoneFrom ws (suc p) (mark_within d ws (suc p)) → Found (mark_within (suc d) ws p)
    go true e r = subst Found (sym (within-here ws d p e)) (omega arith, λ i a b. absurd (omega arith))
    go false e r =
        subst Found (sym (within-next ws d p e))
        (omega (arith, r.0), λ i a b. elim (ℕ_discrete i p) [ yes q ↦ ap (marked ws) q ∙ e | no f ↦ r.1 i (lt_of_not-le (λ h. f (omega arith))) b ])

pub next-none : (ws : List ℕ) (p r : ℕ) → r ≡ next_mark ws p → (p ≤ r) × NoneFrom ws p r
unfolding next_mark
next-none ws p r e = subst (λ (x : ℕ). (p ≤ x) × NoneFrom ws p x) (sym e) (within_none ws (256 - p) p)

-- in the word of q
module _ (ws : List ℕ) (q : ℕ) (w : ℕ) (is : w ≡ get_or ws (q / 64) 0 / 2 ^ (q % 64)) where
  pub none-next : (x : ℕ) → x ≤ q + count_trailing_zeros 64 w → x ≤ (q / 64 + 1) * 64 → NoneFrom ws q x
  unfolding marked
  none-next x a b i l h =
      let same : i / 64 ≡ q / 64 = omega arith in
      let at : i % 64 ≡ q % 64 + (i - q) = omega arith in
      let none = trailing_none 64 w (i - q) (omega arith) in
      rw (same, at) (sym (has_shift (q % 64) (get_or ws (q / 64) 0) (i - q)) ∙ ap (λ (y : ℕ). has y (i - q)) (sym is) ∙ none)

  pub some_next : q + count_trailing_zeros 64 w < (q / 64 + 1) * 64 → marked ws (q + count_trailing_zeros 64 w) ≡ true
  unfolding marked
  some_next h =
      let t = count_trailing_zeros 64 w in
      let same : (q + t) / 64 ≡ q / 64 = omega arith in
      let at : (q + t) % 64 ≡ q % 64 + t = omega arith in
      rw (same, at) (sym (has_shift (q % 64) (get_or ws (q / 64) 0) t) ∙ ap (λ (y : ℕ). has y t) (sym is) ∙ trailing_some 64 w (omega arith))

-- ---- a row of an index

-- the words below k have the row's marks
pub record RowBelow (index : List ℕ) (g : ℕ) (ws : List ℕ) (k : ℕ) (us : List ℕ) : Type 0 where
  pub length-is : length us ≡ 4
  pub done : (j : ℕ) → j < 256 → j / 64 < k → marked us j ≡ (marked ws j || marked index (256 * g + j))
  pub left : (j : ℕ) → k ≤ j / 64 → marked us j ≡ marked ws j

module _ (index : List ℕ) (g : ℕ) (ws : List ℕ) (size : length ws ≡ 4) where
  pub row-start : RowBelow index g ws 0 ws
  row-start = record { length-is = size; done = λ j a b. absurd (omega arith); left = λ j a. refl }

  pub row_next : (k : ℕ) (us : List ℕ) → RowBelow index g ws k us → k < 4 → (x : ℕ) → x ≡ bit_or (get_or us k 0) (get_or index (g * 4 + k) 0) → RowBelow index g ws (k + 1) (set us k x)
  unfolding marked
  row_next k us r h x e = record {
    length-is = length-set us k x ∙ r.length-is;
    done = λ j a b. go j a b (ℕ_discrete (j / 64) k);
    left = λ j a. ap (λ (y : ℕ). has y (j % 64)) (get_or-set_other us k (j / 64) x 0 (λ z. omega arith)) ∙ r.left j (omega arith);
  }
    where
      go : (j : ℕ) → j < 256 → j / 64 < k + 1 → Dec (j / 64 ≡ k)
          → has (get_or (set us k x) (j / 64) 0) (j % 64) ≡ (has (get_or ws (j / 64) 0) (j % 64) || has (get_or index ((256 * g + j) / 64) 0) ((256 * g + j) % 64))
      go j a b (yes q) =
          let place : (256 * g + j) / 64 ≡ g * 4 + k = omega arith in
          let low : (256 * g + j) % 64 ≡ j % 64 = omega arith in
          let old : has (get_or us (j / 64) 0) (j % 64) ≡ has (get_or ws (j / 64) 0) (j % 64) = r.left j (omega arith) in
          rw (place, low, ← old, q)
          (ap (λ (y : ℕ). has y (j % 64)) (get_or-set_same us k x 0 (omega (arith, r.length-is)) ∙ e) ∙ has-or (get_or us k 0) (get_or index (g * 4 + k) 0) (j % 64))
      go j a b (no f) =
          ap (λ (y : ℕ). has y (j % 64)) (get_or-set_other us k (j / 64) x 0 f) ∙ r.done j a (omega (arith, f-ne j f b))
        where
          f-ne : (j : ℕ) → (j / 64 ≡ k → ⊥) → j / 64 < k + 1 → j / 64 < k
          f-ne j f b = lt_of_not-le (λ (l : k ≤ j / 64). f (omega arith))

  pub row-end : (us : List ℕ) → RowBelow index g ws 4 us → AddsRow index g ws us
  row-end us r = (r.length-is ∙ sym size, λ j h. r.done j h (omega arith))
