-- Whether a table is tenable may be asked at the end alone: passes only narrow, and what is wider than a tenable table is tenable. Assumes nothing.
use mathlib.Core.Path.{◌≡◌, refl, sym, ap, ◌∙◌}
use Prim.Native.Nat.{ℕ, zero, suc}
use mathlib.Core.Bool.{Bool, true, false, cond}
use mathlib.Core.List.{List}
use Rattle.model.specs.Propagate.{run, Outcome, contradiction, fixpoint, after_pass, iterate}
use Rattle.model.proofs.Lists.{T_true, true-T, All}
use Rattle.propagation_laws.proofs.Fixpoint.{Frame, Reduces, run-reduces}

-- an outcome whose table is tested now
abbrev pub late : {X : Type 0} → (X → Bool) → Outcome X → Outcome X
late ok contradiction = contradiction
late ok (fixpoint k y) = cond (ok y) (fixpoint k y) contradiction

module _ {X : Type 0} (F : Frame X) (rs : List (X → X)) (h : All (Reduces F) rs) where
  abbrev next : X → X
  next = run rs

  -- what is not tenable stays so
  pub bad-stays : (x : X) → F.ok x ≡ false → F.ok (run rs x) ≡ false
  bad-stays x e = go (F.ok (run rs x)) refl
    where
      go : (b : Bool) → F.ok (run rs x) ≡ b → b ≡ false
      go false q = refl
      go true q = sym (T_true (F.ok x) (F.ok-up (run rs x) x (run-reduces F rs h x) (true-T (F.ok (run rs x)) q))) ∙ e

  pub bad-ends : (fuel k : ℕ) (x : X) → F.ok x ≡ false → iterate F.ok F.same (run rs) fuel k x ≡ contradiction
  unfolding iterate
  bad-ends zero k x e = refl
  bad-ends (suc fuel) k x e = rw (bad-stays x e)

  pub at-the-end : (fuel k : ℕ) (x : X)
      → iterate F.ok F.same (run rs) fuel k x ≡ late F.ok (iterate (λ y. true) F.same (run rs) fuel k x)
  unfolding iterate
  at-the-end zero k x = refl
  at-the-end (suc fuel) k x = go (at-the-end fuel (suc k) (run rs x)) (F.ok (run rs x)) refl (F.same (run rs x) x)
    where
      rest : Outcome X
      rest = iterate F.ok F.same (run rs) fuel (suc k) (run rs x)

      loose : Outcome X
      loose = iterate (λ y. true) F.same (run rs) fuel (suc k) (run rs x)

      go : rest ≡ late F.ok loose → (b : Bool) → F.ok (run rs x) ≡ b → (c : Bool) → after_pass b c k (run rs x) rest ≡ late F.ok (after_pass true c k (run rs x) loose)
      go ih true e true = sym (ap (λ (b : Bool). cond b (fixpoint (suc k) (run rs x)) contradiction) e)
      go ih false e true = sym (ap (λ (b : Bool). cond b (fixpoint (suc k) (run rs x)) contradiction) e)
      go ih true e false = ih
      go ih false e false = sym (bad-ends fuel (suc k) (run rs x) e) ∙ ih
