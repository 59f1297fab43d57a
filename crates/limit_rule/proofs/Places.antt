-- One limit, as a list has it and as the table does that four lists make. Assumes nothing.
use mathlib.Core.Path.{◌≡◌, refl, sym, ap, ◌∙◌}
use Prim.Native.Nat.{ℕ, ◌-◌, ◌≤◌, ◌<◌}
use native.Mathlib.Omega.{arith}
use native.Mathlib.Decide.{dec_lt}
use mathlib.Core.List.{List}
use borrow.Author.Tests.{lt-ltb, le-ltb}
use lib.ListN.{length, get_or, get_or-eq_default}
use Rattle.model.specs.declared.Group.{Group}
use Rattle.model.specs.Limits.{limits}
use Rattle.model.specs.Model.{zero_group, group_at}
use Rattle.table.specs.Table.{zipped, Whole}
use Rattle.table.proofs.Fields.{zipped-at}
use Rattle.limit_rule.specs.Moves.{limit_of}

-- ---- what is read

module _ (l : List ℕ) (g i : ℕ) (e : i ≡ g - 1) where
  pub limit-there : i < limits.groups → limit_of l g ≡ get_or l i 0
  unfolding limit_of
  limit-there h = rw (lt-ltb (g - 1) limits.groups (omega arith)) (sym (ap (λ (j : ℕ). get_or l j 0) e))

  pub limit-past : limits.groups ≤ i → limit_of l g ≡ 0
  unfolding limit_of
  limit-past h = rw (le-ltb (g - 1) limits.groups (omega arith)) refl

module _ (f p l h : List ℕ) (w : Whole (zipped f p l h)) (g : ℕ) where
  pub low-is : limit_of l g ≡ (group_at (zipped f p l h) g).low
  unfolding group_at zero_group
  low-is = go (dec_lt (g - 1) limits.groups)
    where
      go : Dec (g - 1 < limits.groups) → limit_of l g ≡ (group_at (zipped f p l h) g).low
      go (yes k) = limit-there l g (g - 1) refl k ∙ sym (ap (λ (x : Group). x.low) (zipped-at f p l h (g - 1) (omega arith)))
      go (no k) =
          let past : length (zipped f p l h) ≤ g - 1 = omega arith in
          limit-past l g (g - 1) refl (omega arith) ∙ sym (ap (λ (x : Group). x.low) (get_or-eq_default (zipped f p l h) zero_group past))

  pub high_is : limit_of h g ≡ (group_at (zipped f p l h) g).high
  unfolding group_at zero_group
  high_is = go (dec_lt (g - 1) limits.groups)
    where
      go : Dec (g - 1 < limits.groups) → limit_of h g ≡ (group_at (zipped f p l h) g).high
      go (yes k) = limit-there h g (g - 1) refl k ∙ sym (ap (λ (x : Group). x.high) (zipped-at f p l h (g - 1) (omega arith)))
      go (no k) =
          let past : length (zipped f p l h) ≤ g - 1 = omega arith in
          limit-past h g (g - 1) refl (omega arith) ∙ sym (ap (λ (x : Group). x.high) (get_or-eq_default (zipped f p l h) zero_group past))
