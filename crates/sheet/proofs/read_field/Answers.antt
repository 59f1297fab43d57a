-- `read_field` tells what stands in a field. Assumes nothing.
use Prim.Native.Nat.{ℕ, ◌≤◌}
use mathlib.Core.Path.{◌≡◌, refl, sym, ◌∙◌, ap}
use mathlib.Core.Bool.{Bool, true, false, cond, not, ◌&&◌}
use mathlib.Core.List.{List, [], ◌∷◌}
use Rattle.std.specs.Prelude.{Option, None, Some}
use lib.Dec.{leb, ltb, eqb}
use lib.ListN.{length, get_or}
use Rattle.model.specs.declared.Field.{Field}
use Rattle.model.specs.declared.Field.TheVariants.{Number, Blank, Bad}
use Rattle.model.specs.Sheet.{after_spaces, digits_after, as_field, number_of, field_value, field_refusal, field_number, if_none, or_zero, number_in}
use Rattle.sheet.proofs.Laws.{spaces-fewer}
use native.Mathlib.Omega.{arith}
use borrow.Author.Tests.{le-leb, lt-ltb, ne_eqb}
use Rattle.sheet.proofs.read_field.Goals as goal

-- the refusal and the number of the answer, in a mark column or elsewhere
both : (f : List ℕ) (r : Field) → r ≡ field_value f
    → (r ≡ field_value f) × ((mark : Bool) → (field_refusal r mark ≡ if_none 4 (number_in f mark)) × (field_number r mark ≡ or_zero (number_in f mark)))
unfolding field_value number_in number_of
both f r e =
    let d = after_spaces f in (
      e,
      λ mark.
          let x = go (eqb (length f) 4) (eqb (length d) 0) (number_of d) mark (λ z. rw z) in
          (ap (λ (y : Field). field_refusal y mark) e ∙ x.0, ap (λ (y : Field). field_number y mark) e ∙ x.1),
    )
  where
    go : (b z : Bool) (o : Option ℕ) (mark : Bool) → (z ≡ true → o ≡ None)
        → (field_refusal (cond (not b) Bad (cond z Blank (as_field o))) mark ≡ if_none 4 (cond (not b) None (cond (mark && z) (Some 1) o)))
        × (field_number (cond (not b) Bad (cond z Blank (as_field o))) mark ≡ or_zero (cond (not b) None (cond (mark && z) (Some 1) o)))
    go false z o mark h = (refl, refl)
    go true true o true h = (refl, refl)
    go true true o false h = rw (h refl) (refl, refl)
    go true false None true h = (refl, refl)
    go true false None false h = (refl, refl)
    go true false (Some v) true h = (refl, refl)
    go true false (Some v) false h = (refl, refl)

-- ---- a field of four bytes whose part after the spaces is d
module _ (f d : List ℕ) (four : length f ≡ 4) (e : d ≡ after_spaces f) where
  blank : length d ≡ 0 → Blank ≡ field_value f
  unfolding field_value
  blank z = rw (four, ← e, z)

  module _ (z : length d ≡ 0 → ⊥) where
    written : field_value f ≡ as_field (number_of d)
    unfolding field_value
    written = rw (four, ← e, ne_eqb (length d) 0 z)

    -- a 0 stands alone
    zero : get_or d 0 0 ≡ 48 → length d ≡ 1 → Number 0 ≡ field_value f
    zero h k = sym (written ∙ ap as_field (alone d h k))
      where
        alone : (d : List ℕ) → get_or d 0 0 ≡ 48 → length d ≡ 1 → number_of d ≡ Some 0
        alone [] h k = absurd (omega arith)
        alone (x ∷ []) h k = unfold number_of in rw h
        alone (x ∷ y ∷ ys) h k = absurd (omega arith)

    needless : get_or d 0 0 ≡ 48 → (length d ≡ 1 → ⊥) → Bad ≡ field_value f
    unfolding number_of
    needless h k =
        let none_is : number_of d ≡ None = rw (ne_eqb (length d) 0 z, lt-ltb 1 (length d) (omega arith), h) in
        sym (written ∙ ap as_field none_is)

    -- digits that do not begin with 0, as the decimal reader tells them
    told : (get_or d 0 0 ≡ 48 → ⊥) → (x k : Option ℕ) → x ≡ cond (leb (length d) 9) (digits_after 0 d) None → x ≡ k
        → as_field k ≡ field_value f
    unfolding number_of
    told h x k v q =
        let few : length d ≤ 9 = omega (arith, ap length e, spaces-fewer f) in
        let short : cond (leb (length d) 9) (digits_after 0 d) None ≡ digits_after 0 d = rw (le-leb (length d) 9 few) in
        let plain : number_of d ≡ digits_after 0 d = rw (ne_eqb (length d) 0 z, ne_eqb (get_or d 0 0) 48 h) (go (ltb 1 (length d))) in
        ap as_field (sym q) ∙ ap as_field (v ∙ short ∙ sym plain) ∙ sym written
      where
        go : (b : Bool) → cond (b && false) None (digits_after 0 d) ≡ digits_after 0 d
        go true = refl
        go false = refl

-- the clauses by their names
named : {A B : Type 0} → A × B → record { value : A; mark_value : B }
named p = record { value = p.0; mark_value = p.1 }

pub returns-then-f-ne4 : goal.returns-then-f-ne4
unfolding field_value
returns-then-f-ne4 c = named (both _ Bad (simp (ne_eqb _ _ c.if-f-ne4.true)))

pub returns-then-n-eq0 : goal.returns-then-n-eq0
returns-then-n-eq0 c = named (both _ Blank (blank _ _ c.if-f-ne4.false c.unspaced-d.ensures c.if-n-eq0.true))

pub returns-then-n-eq1 : goal.returns-then-n-eq1
returns-then-n-eq1 c = named (both _ _
    (zero _ _ c.if-f-ne4.false c.unspaced-d.ensures
    c.if-n-eq0.false c.if-d-eq48.true c.if-n-eq1.true))

pub returns-then-d-eq48 : goal.returns-then-d-eq48
returns-then-d-eq48 c = named (both _ _
    (needless _ _ c.if-f-ne4.false c.unspaced-d.ensures
    c.if-n-eq0.false c.if-d-eq48.true c.if-n-eq1.false))

pub returns-in_default : goal.returns-in_default
returns-in_default c = named (both _ _
    (told _ _ c.if-f-ne4.false c.unspaced-d.ensures
    c.if-n-eq0.false c.if-d-eq48.false _ _ c.decimal.ensures
    c.in_default.is))

pub returns : goal.returns
returns c = named (both _ _
    (told _ _ c.if-f-ne4.false
    c.unspaced-d.ensures c.if-n-eq0.false
    c.if-d-eq48.false _ _ c.decimal.ensures c.in-Some.is))
