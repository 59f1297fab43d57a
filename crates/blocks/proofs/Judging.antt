-- What is judged first of a block: 20 and 22, then 23. Assumes nothing.
use mathlib.Core.Path.{◌≡◌, sym, ◌∙◌}
use Prim.Native.Nat.{ℕ, ◌≤◌, ◌<◌}
use native.Mathlib.Omega.{arith}
use borrow.Author.Tests.{lt-ltb, le-ltb}
use lib.Dec.{T, ltb}
use Rattle.model.specs.declared.Model.{Model}
use Rattle.model.specs.Lists.{stop}
use Rattle.model.specs.Model.{in_range}
use Rattle.model.specs.Propagate.{unsettled_or}
use Rattle.model.specs.Cnf.{block_count}
use Rattle.model.proofs.Refusals.{settled-rest, rest-settled, unsettled-first}
use Rattle.blocks.specs.Blocks.{judgement}

module _ (m : Model) (b r : ℕ) (e : r ≡ unsettled_or m 0) where
  pub judge-unsettled : (r ≡ 0 → ⊥) → r ≡ judgement m b
  unfolding judgement
  judge-unsettled h = e ∙ sym (unsettled-first m (λ z. h (e ∙ z)) (stop (ltb (block_count m) b) 23 0))

  module _ (z : r ≡ 0) where
    pub judged-range : T (in_range m)
    judged-range = (rest-settled m (sym e ∙ z)).0

    after : (rest : ℕ) → unsettled_or m rest ≡ rest
    after = settled-rest m judged-range (rest-settled m (sym e ∙ z)).1

    pub judge-23 : (k : ℕ) → k ≡ block_count m → k < b → 23 ≡ judgement m b
    unfolding judgement
    judge-23 k q l = sym (after (stop (ltb (block_count m) b) 23 0) ∙ rw (lt-ltb (block_count m) b (omega arith)))

    pub judge-0 : (k : ℕ) → k ≡ block_count m → b ≤ k → 0 ≡ judgement m b
    unfolding judgement
    judge-0 k q l = sym (after (stop (ltb (block_count m) b) 23 0) ∙ rw (le-ltb (block_count m) b (omega arith)))
