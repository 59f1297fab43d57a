-- Refusals 20 and 22, which come before an entry's own. Assumes nothing.
use mathlib.Core.Path.{◌≡◌, refl}
use Prim.Native.Nat.{ℕ}
use native.Mathlib.Omega.{arith}
use mathlib.Core.Bool.{Bool, true, false, not}
use lib.Dec.{T}
use Rattle.model.specs.declared.Model.{Model}
use Rattle.model.specs.Lists.{stop}
use Rattle.model.specs.Model.{in_range}
use Rattle.model.specs.Propagate.{is_fixpoint, unsettled_or}
use Rattle.model.proofs.Lists.{T_true, true-T}

module _ (m : Model) where
  -- a settled model has neither
  pub settled-rest : T (in_range m) → T (is_fixpoint m) → (rest : ℕ) → unsettled_or m rest ≡ rest
  unfolding unsettled_or
  settled-rest r f rest = rw (T_true (in_range m) r, T_true (is_fixpoint m) f)

  -- and where neither is given the model is settled
  pub rest-settled : unsettled_or m 0 ≡ 0 → T (in_range m) × T (is_fixpoint m)
  unfolding unsettled_or
  rest-settled e = go (in_range m) refl (is_fixpoint m) refl e
    where
      go : (x : Bool) → in_range m ≡ x → (y : Bool) → is_fixpoint m ≡ y → stop (not x) 20 (stop (not y) 22 0) ≡ 0 → T (in_range m) × T (is_fixpoint m)
      go true p true q e = (true-T (in_range m) p, true-T (is_fixpoint m) q)
      go true p false q e = absurd (omega arith)
      go false p y q e = absurd (omega arith)

  -- nor has one whose answer is another
  pub unsettled-other : (rest x : ℕ) → (20 ≡ x → ⊥) → (22 ≡ x → ⊥) → unsettled_or m rest ≡ x → T (in_range m) × T (is_fixpoint m) × (rest ≡ x)
  unfolding unsettled_or
  unsettled-other rest x n k e = go (in_range m) refl (is_fixpoint m) refl e
    where
      go : (a : Bool) → in_range m ≡ a → (b : Bool) → is_fixpoint m ≡ b → stop (not a) 20 (stop (not b) 22 rest) ≡ x → T (in_range m) × T (is_fixpoint m) × (rest ≡ x)
      go true p true q e = (true-T (in_range m) p, true-T (is_fixpoint m) q, e)
      go true p false q e = absurd (k e)
      go false p b q e = absurd (n e)

  -- one of them is the answer, whatever the entry's own refusals are
  pub unsettled-first : (unsettled_or m 0 ≡ 0 → ⊥) → (rest : ℕ) → unsettled_or m rest ≡ unsettled_or m 0
  unfolding unsettled_or
  unsettled-first h rest = go (in_range m) (is_fixpoint m) h
    where
      go : (x y : Bool) → (stop (not x) 20 (stop (not y) 22 0) ≡ 0 → ⊥) → stop (not x) 20 (stop (not y) 22 rest) ≡ stop (not x) 20 (stop (not y) 22 0)
      go true true h = absurd (h refl)
      go true false h = refl
      go false y h = refl
