-- Laws of a group's totalizer: m, L, U, and how many outputs. Assumes nothing.
use mathlib.Core.Path.{◌≡◌, refl, ap, ap₂, ◌∙◌}
use mathlib.Core.Bool.{Bool, true, false, cond, ◌||◌}
use Prim.Native.Nat.{ℕ, zero, suc, ◌+◌, ◌-◌, ◌*◌, ◌/◌, ◌≤◌, ◌<◌}
use native.Mathlib.Omega.{arith}
use borrow.Author.Tests.{lt-ltb, le-ltb, le-leb}
use lib.Dec.{leb, ltb}
use Rattle.model.specs.declared.Group.{Group}
use Rattle.model.specs.Limits.{limits}
use Rattle.model.specs.Totalizer.{output_count_in, tree_output_count}
use Rattle.model.specs.Cnf.{open_count, at_least, at_most, counted, outputs_of}
use Rattle.encoding_laws.proofs.Counts.{output-count-step}
use Rattle.encoding_laws.proofs.Bounds.{outputs_mono}
use Rattle.numbering.specs.declared.Totalizer.{Totalizer}
use Rattle.numbering.specs.Numbering.{totalizer_of}

-- ---- m, L, U and whether there is a totalizer

module _ (g : Group) (size l h : ℕ) (e : size ≡ open_count g) (p : l ≡ at_least g) (q : h ≡ at_most g) where
  pub totalizer-low : 0 < l → record { size = size; low = l; high = h; exists = ltb 0 l } ≡ totalizer_of g
  unfolding totalizer_of counted
  totalizer-low k =
      rw (e, p, q)
      (ap {B = Totalizer} (λ b. record { size = open_count g; low = at_least g; high = at_most g; exists = b })
      (or_left (ltb 0 (at_least g)) (ltb (at_most g) (open_count g)) (lt-ltb 0 (at_least g) (omega arith))))
    where
      or_left : (a b : Bool) → a ≡ true → a ≡ (a || b)
      or_left a b r = rw r

  pub totalizer-high : l ≤ 0 → record { size = size; low = l; high = h; exists = ltb h size } ≡ totalizer_of g
  unfolding totalizer_of counted
  totalizer-high k =
      rw (e, p, q)
      (ap {B = Totalizer} (λ b. record { size = open_count g; low = at_least g; high = at_most g; exists = b })
      (or_right (ltb 0 (at_least g)) (ltb (at_most g) (open_count g)) (le-ltb 0 (at_least g) (omega arith))))
    where
      or_right : (a b : Bool) → a ≡ false → b ≡ (a || b)
      or_right a b r = rw r

module _ (g : Group) (r : Totalizer) (e : r ≡ totalizer_of g) where
  pub totalizer-parts : (r.size ≡ open_count g) × (r.low ≡ at_least g) × (r.high ≡ at_most g) × (r.exists ≡ counted g)
  unfolding totalizer_of
  totalizer-parts = (
    ap (λ (x : Totalizer). x.size) e,
    ap (λ (x : Totalizer). x.low) e,
    ap (λ (x : Totalizer). x.high) e,
    ap (λ (x : Totalizer). x.exists) e,
  )

pub none-outputs : (g : Group) → counted g ≡ false → outputs_of g ≡ 0
unfolding outputs_of
none-outputs g e = rw e

pub some-outputs : (g : Group) → counted g ≡ true → outputs_of g ≡ tree_output_count (open_count g)
unfolding outputs_of
some-outputs g e = rw e

-- ---- how many outputs a tree has

-- a leaf, and two
pub outputs-first : (m : ℕ) → m < 2 → (0 ≡ tree_output_count m) × (m + m ≡ tree_output_count (m + 1))
unfolding tree_output_count output_count_in
outputs-first zero h = (refl, refl)
outputs-first (suc zero) h = (refl, refl)
outputs-first (suc (suc m)) h = absurd (omega arith)

-- the halves of m and of m + 1: x and y are counted of m / 2 and of one more
module _ (m : ℕ) (h : 2 ≤ m) where
  own-step : tree_output_count m ≡ m + tree_output_count (m / 2) + tree_output_count (m - m / 2)
  own-step = output-count-step m h

  left-more : (m + 1) / 2 ≡ m - m / 2
  left-more = omega arith

  right-more : m + 1 - (m + 1) / 2 ≡ m / 2 + 1
  right-more = omega arith

  more-step : tree_output_count (m + 1) ≡ m + 1 + tree_output_count (m - m / 2) + tree_output_count (m / 2 + 1)
  more-step =
      output-count-step (m + 1) (omega arith)
      ∙ ap₂ (λ (i j : ℕ). m + 1 + tree_output_count i + tree_output_count j) left-more right-more

  pub outputs-even : m ≤ m / 2 + m / 2 → {x y : ℕ} → x ≡ tree_output_count (m / 2) → y ≡ tree_output_count (m / 2 + 1)
      → (m + x + x ≡ tree_output_count m) × (m + 1 + x + y ≡ tree_output_count (m + 1))
  outputs-even k p q =
      let e : tree_output_count (m - m / 2) ≡ tree_output_count (m / 2) = ap tree_output_count {x = m - m / 2} {y = m / 2} (omega arith) in
      (omega (arith, own-step, e), omega (arith, more-step, e))

  pub outputs-odd : m / 2 + m / 2 < m → {x y : ℕ} → x ≡ tree_output_count (m / 2) → y ≡ tree_output_count (m / 2 + 1)
      → (m + x + y ≡ tree_output_count m) × (m + 1 + y + y ≡ tree_output_count (m + 1))
  outputs-odd k p q =
      let e : tree_output_count (m - m / 2) ≡ tree_output_count (m / 2 + 1) = ap tree_output_count {x = m - m / 2} {y = m / 2 + 1} (omega arith) in
      (omega (arith, own-step, e), omega (arith, more-step, e))

-- and they are few
pub outputs-few-more : (m : ℕ) → m ≤ limits.word → (tree_output_count m ≤ 1000) × (tree_output_count (m + 1) ≤ 1000)
outputs-few-more m h = (omega (arith, outputs_mono m (suc limits.word) (omega arith), most), omega (arith, outputs_mono (m + 1) (suc limits.word) (omega arith), most))
  where
    most : tree_output_count (suc limits.word) ≤ 1000
    most = unfold tree_output_count output_count_in in omega arith

-- no more than a square has places
pub outputs-few : tree_output_count limits.word ≤ limits.word * limits.word
unfolding tree_output_count output_count_in
outputs-few = omega arith

pub within_word : (m : ℕ) → m ≤ limits.word → cond (leb m limits.word) (tree_output_count m) 0 ≡ tree_output_count m
within_word m h = rw (le-leb m limits.word h)
