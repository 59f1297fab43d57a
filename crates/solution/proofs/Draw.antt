-- A closing's part of demand 3: a refusal gives no groups, and the groups of any other are a draw. Assumes nothing.
use Prim.Native.Nat.{ℕ}
use mathlib.Core.Path.{◌≡◌, sym, ap, ◌∙◌}
use mathlib.Core.List.{List}
use Rattle.model.specs.declared.Model.{Model}
use Rattle.model.specs.declared.Reading.{Reading}
use Rattle.model.specs.declared.Closed.{Closed}
use Rattle.model.specs.Model.{Whole}
use Rattle.model.specs.Close.{closed}
use Rattle.correctness.specs.Entries.{Drawn}
use Rattle.correctness.proofs.Filling.{closed-drawn}
use Rattle.solution.specs.Holds.{refused_closing}

module _ (m : Model) (r : Reading) (values : List ℕ) (a : Closed) (e : a ≡ closed m r values) where
  pub no-draw : (x : ℕ) → a ≡ refused_closing x → (x ≡ 0 → ⊥) → (a ≡ closed m r values) × (a.refusal ≡ 0 → Drawn m a)
  unfolding refused_closing
  no-draw x k n = (e, λ z. absurd (n (ap (λ (q : Closed). q.refusal) (sym k) ∙ z)))

  pub a-draw : Whole m → (a ≡ closed m r values) × (a.refusal ≡ 0 → Drawn m a)
  a-draw w = (e, λ z. closed-drawn m w r values a e z)
