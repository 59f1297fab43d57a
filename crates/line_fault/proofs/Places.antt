-- The first place at which a test fails. Assumes nothing.
use Prim.Native.Nat.{ℕ, zero, suc, ◌+◌, ◌-◌, ◌≤◌, ◌<◌}
use mathlib.Core.Path.{◌≡◌, refl, sym, ap, ◌∙◌}
use mathlib.Core.Bool.{Bool, true, false, cond, ◌&&◌}
use native.Mathlib.Decide.{dec_le}
use native.Mathlib.Omega.{arith}
use native.Mathlib.Numerals.{add-one}
use Rattle.std.specs.List.{list_all}
use Rattle.model.specs.Lists.{range}
use Rattle.line_fault.specs.Fault.{first_not}

-- ---- a loop from i on: w is what the search from i on finds

module _ (p : ℕ → Bool) (w n i : ℕ) (inv : w ≡ first_not p i (n - i)) where
  next : i < n → n - i ≡ suc (n - (i + 1))
  next h = omega arith

  pub first_goes : i < n → p i ≡ true → w ≡ first_not p (i + 1) (n - (i + 1))
  first_goes h e = inv ∙ rw (next h, e, add-one i)

  pub first_stops : i < n → p i ≡ false → i ≡ w
  first_stops h e = sym (inv ∙ rw (next h, e))

  pub first_done : n ≤ i → i ≡ w
  first_done h = let z : n - i ≡ 0 = omega arith in sym (inv ∙ rw z)

-- it is no further than the end
pub first-bound : (p : ℕ → Bool) (a k : ℕ) → first_not p a k ≤ a + k
first-bound p a zero = omega arith
first-bound p a (suc k) = go (p a) (first-bound p (suc a) k)
  where
    go : (b : Bool) → first_not p (suc a) k ≤ suc a + k → cond b (first_not p (suc a) k) a ≤ a + suc k
    go true h = omega arith
    go false h = omega arith

-- ---- it is the first: the test holds at all places before, and fails there where it does not hold at all

pub before-holds : (p : ℕ → Bool) (a k j : ℕ) → a ≤ j → j < first_not p a k → p j ≡ true
before-holds p a zero j h i = absurd (omega arith)
before-holds p a (suc k) j h i = go (p a) refl (λ x y. before-holds p (suc a) k j x y) i
  where
    go : (b : Bool) → p a ≡ b → (suc a ≤ j → j < first_not p (suc a) k → p j ≡ true) → j < cond b (first_not p (suc a) k) a → p j ≡ true
    go true e later i = at (dec_le j a)
      where
        at : Dec (j ≤ a) → p j ≡ true
        at (yes q) = let same : j ≡ a = omega arith in ap p same ∙ e
        at (no f) = later (omega arith) i
    go false e later i = absurd (omega arith)

pub there-fails : (p : ℕ → Bool) (a k : ℕ) → list_all p (range a k) ≡ false → (first_not p a k < a + k) × (p (first_not p a k) ≡ false)
there-fails p a zero e = let z : ◌≡◌ {A = ℕ} 0 1 = cc in absurd (omega arith)
there-fails p a (suc k) e = go (p a) refl (there-fails p (suc a) k) e
  where
    go : (b : Bool) → p a ≡ b
        → (list_all p (range (suc a) k) ≡ false → (first_not p (suc a) k < suc a + k) × (p (first_not p (suc a) k) ≡ false))
        → (b && list_all p (range (suc a) k)) ≡ false
        → (cond b (first_not p (suc a) k) a < a + suc k) × (p (cond b (first_not p (suc a) k) a) ≡ false)
    go true q later e = let r = later e in (omega (arith, r.0), r.1)
    go false q later e = (omega arith, q)
