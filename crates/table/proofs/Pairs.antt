-- Two tables held against each other: what `==` says of their first groups is `same_table`. Assumes nothing.
use mathlib.Core.Path.{◌≡◌, refl, sym, ap, ap₂, ◌∙◌}
use Prim.Native.Nat.{ℕ, min}
use native.Mathlib.Decide.{dec_lt}
use native.Mathlib.Omega.{arith}
use mathlib.Core.Bool.{Bool, ◌&&◌}
use mathlib.Core.List.{List, [], ◌∷◌}
use lib.Dec.{eqb}
use lib.ListN.{length, take}
use lib.Pointwise.{pointwise}
use lib.Seq.{take_all}
use Rattle.model.specs.declared.Group.{Group}
use Rattle.model.specs.Lists.{pairwise}
use Rattle.model.specs.Propagate.{same_group}
use Rattle.model.proofs.Lists.{and_assoc}

pub alike : (x y : Group) → (eqb x.fixed y.fixed && (eqb x.possible y.possible && (eqb x.low y.low && eqb x.high y.high))) ≡ same_group x y
unfolding same_group
alike x y =
    let a = eqb x.fixed y.fixed in
    let b = eqb x.possible y.possible in
    let c = eqb x.low y.low in
    let d = eqb x.high y.high in
    sym (and_assoc (a && b) c d ∙ and_assoc a b (c && d))

pub pointwise-pairwise : {A : Type 0} (e q : A → A → Bool) → ((x y : A) → e x y ≡ q x y) → (xs ys : List A) → pointwise e xs ys ≡ pairwise q xs ys
pointwise-pairwise e q h [] [] = refl
pointwise-pairwise e q h [] (y ∷ ys) = refl
pointwise-pairwise e q h (x ∷ xs) [] = refl
pointwise-pairwise e q h (x ∷ xs) (y ∷ ys) = ap₂ (λ (a b : Bool). a && b) (h x y) (pointwise-pairwise e q h xs ys)

-- as many as there are
pub take-first : {A : Type 0} (xs : List A) (s i : ℕ) → i ≡ min s (length xs) → take i xs ≡ take s xs
take-first xs s i e =
    elim (dec_lt s (length xs)) [
      | yes l ↦ let k : i ≡ s = omega arith in ap (λ (n : ℕ). take n xs) k
      | no l ↦ take_all i xs (omega arith) ∙ sym (take_all s xs (omega arith))
    ]
