-- From one thing to a list of things, place by place: a frame of tables, and a rule at one place. Assumes nothing.
use mathlib.Core.Path.{◌≡◌, refl, sym, ap, ap₂, subst}
use mathlib.Core.Logic.{◌⊎◌, inl, inr}
use Prim.Native.Nat.{ℕ, zero, suc, ◌<◌}
use native.Mathlib.Omega.{arith}
use mathlib.Core.Bool.{Bool, true, false}
use mathlib.Core.List.{List, [], ◌∷◌}
use lib.Dec.{T}
use lib.ListN.{get_or}
use Rattle.std.specs.List.{list_all}
use Rattle.model.specs.Lists.{pairwise, total, on_place}
use Rattle.model.proofs.Lists.{and_left, and_right, and_both, pairwise-refl, pairwise-trans}
use Rattle.propagation_laws.proofs.Fixpoint.{Frame, Rule}

head_eq : {X : Type 0} {x y : X} {xs ys : List X} → (x ∷ xs) ≡ (y ∷ ys) → x ≡ y
head_eq e = cc

tail-eq : {X : Type 0} {x y : X} {xs ys : List X} → (x ∷ xs) ≡ (y ∷ ys) → xs ≡ ys
tail-eq e = cc

pub not_left : {A B : Type 0} → (A → ⊥) → A ⊎ B → B
not_left f (inl a) = absurd (f a)
not_left f (inr b) = b

module _ {X : Type 0} (F : Frame X) where
  first : (x y : X) (xs ys : List X) → T (pairwise F.within (x ∷ xs) (y ∷ ys)) → T (F.within x y)
  first x y xs ys t = and_left (F.within x y) (pairwise F.within xs ys) t

  rest : (x y : X) (xs ys : List X) → T (pairwise F.within (x ∷ xs) (y ∷ ys)) → T (pairwise F.within xs ys)
  rest x y xs ys t = and_right (F.within x y) (pairwise F.within xs ys) t

  both : (x y : X) (xs ys : List X) → T (F.within x y) → T (pairwise F.within xs ys) → T (pairwise F.within (x ∷ xs) (y ∷ ys))
  both x y xs ys s t = and_both (F.within x y) (pairwise F.within xs ys) s t

  pub table-antisym : (x y : List X) → T (pairwise F.within x y) → T (pairwise F.within y x) → x ≡ y
  table-antisym [] [] p q = refl
  table-antisym [] (y ∷ ys) p q = absurd p
  table-antisym (x ∷ xs) [] p q = absurd p
  table-antisym (x ∷ xs) (y ∷ ys) p q =
      ap₂ {C = List X} (λ a l. a ∷ l) (F.w-antisym x y (first x y xs ys p) (first y x ys xs q))
      (table-antisym xs ys (rest x y xs ys p) (rest y x ys xs q))

  pub table-ok : (x y : List X) → T (pairwise F.within x y) → T (list_all F.ok x) → T (list_all F.ok y)
  table-ok [] [] p c = tt
  table-ok [] (y ∷ ys) p c = absurd p
  table-ok (x ∷ xs) [] p c = absurd p
  table-ok (x ∷ xs) (y ∷ ys) p c =
      and_both (F.ok y) (list_all F.ok ys) (F.ok-up x y (first x y xs ys p) (and_left (F.ok x) (list_all F.ok xs) c))
      (table-ok xs ys (rest x y xs ys p) (and_right (F.ok x) (list_all F.ok xs) c))

  pub table_same : (x y : List X) → T (pairwise F.same x y) → x ≡ y
  table_same [] [] t = refl
  table_same [] (y ∷ ys) t = absurd t
  table_same (x ∷ xs) [] t = absurd t
  table_same (x ∷ xs) (y ∷ ys) t =
      ap₂ {C = List X} (λ a l. a ∷ l) (F.same-eq x y (and_left (F.same x y) (pairwise F.same xs ys) t))
      (table_same xs ys (and_right (F.same x y) (pairwise F.same xs ys) t))

  -- either the same, or smaller
  shrink-one : (x y : X) → T (F.ok y) → T (F.within y x) → (b : Bool) → F.same y x ≡ b → (y ≡ x) ⊎ (F.measure y < F.measure x)
  shrink-one x y c w true e = inl (F.same-eq y x (subst T (sym e) tt))
  shrink-one x y c w false e = inr (F.shrinks x y c w (λ q. subst T e (subst (λ (z : X). T (F.same z x)) (sym q) (F.same_refl x))))

  cons-shrink : (x y : X) (xs ys : List X) → (y ≡ x) ⊎ (F.measure y < F.measure x)
      → (ys ≡ xs) ⊎ (total F.measure ys < total F.measure xs)
      → ((y ∷ ys) ≡ (x ∷ xs)) ⊎ (total F.measure (y ∷ ys) < total F.measure (x ∷ xs))
  cons-shrink x y xs ys (inl p) (inl q) = inl (ap₂ {C = List X} (λ a l. a ∷ l) p q)
  cons-shrink x y xs ys (inl p) (inr q) = inr (omega (arith, ap F.measure p))
  cons-shrink x y xs ys (inr p) (inl q) = inr (omega (arith, ap (total F.measure) q))
  cons-shrink x y xs ys (inr p) (inr q) = inr (omega arith)

  pub table-shrinks : (x y : List X) → T (list_all F.ok y) → T (pairwise F.within y x)
      → (y ≡ x) ⊎ (total F.measure y < total F.measure x)
  table-shrinks [] [] c p = inl refl
  table-shrinks [] (y ∷ ys) c p = absurd p
  table-shrinks (x ∷ xs) [] c p = absurd p
  table-shrinks (x ∷ xs) (y ∷ ys) c p =
      cons-shrink x y xs ys (shrink-one x y (and_left (F.ok y) (list_all F.ok ys) c) (first y x ys xs p) (F.same y x) refl)
      (table-shrinks xs ys (and_right (F.ok y) (list_all F.ok ys) c) (rest y x ys xs p))

  abbrev pub list_frame : Frame (List X)
  list_frame = record {
    within = pairwise F.within;
    ok = list_all F.ok;
    same = pairwise F.same;
    measure = total F.measure;
    w-refl = pairwise-refl F.within F.w-refl;
    w-trans = pairwise-trans F.within F.w-trans;
    w-antisym = table-antisym;
    ok-up = table-ok;
    same-eq = table_same;
    same_refl = pairwise-refl F.same F.same_refl;
    shrinks = λ x y c w d. not_left d (table-shrinks x y c w);
  }

  -- ---- a change at one place

  pub place-reduces : (i : ℕ) (r : X → X) → ((x : X) → T (F.within (r x) x)) → (x : List X) → T (pairwise F.within (on_place i r x) x)
  place-reduces i r h [] = tt
  place-reduces zero r h (x ∷ xs) = both (r x) x xs xs (h x) (pairwise-refl F.within F.w-refl xs)
  place-reduces (suc i) r h (x ∷ xs) = both x x (on_place i r xs) xs (F.w-refl x) (place-reduces i r h xs)

  -- r is what the rule does to u, s what it does to x
  pub place-keeps : (i : ℕ) (r s : X → X) → ((u x : X) → T (F.ok u) → r u ≡ u → T (F.within u x) → T (F.within u (s x)))
      → (u x : List X) → T (list_all F.ok u) → on_place i r u ≡ u → T (pairwise F.within u x) → T (pairwise F.within u (on_place i s x))
  place-keeps i r s h [] [] c e w = tt
  place-keeps i r s h [] (x ∷ xs) c e w = absurd w
  place-keeps i r s h (u ∷ us) [] c e w = absurd w
  place-keeps zero r s h (u ∷ us) (x ∷ xs) c e w =
      both u (s x) us xs (h u x (and_left (F.ok u) (list_all F.ok us) c) (head_eq e) (first u x us xs w)) (rest u x us xs w)
  place-keeps (suc i) r s h (u ∷ us) (x ∷ xs) c e w =
      both u x us (on_place i s xs) (first u x us xs w)
      (place-keeps i r s h us xs (and_right (F.ok u) (list_all F.ok us) c) (tail-eq e) (rest u x us xs w))

  pub place-rule : (i : ℕ) (r : X → X) → Rule F r → Rule list_frame (on_place i r)
  place-rule i r h = record { reduces = place-reduces i r h.reduces; keeps = place-keeps i r r h.keeps }

  pub place-within : (d : X) (i : ℕ) (u x : List X) → T (pairwise F.within u x) → T (F.within (get_or u i d) (get_or x i d))
  place-within d i [] [] w = F.w-refl d
  place-within d i [] (x ∷ xs) w = absurd w
  place-within d i (u ∷ us) [] w = absurd w
  place-within d zero (u ∷ us) (x ∷ xs) w = first u x us xs w
  place-within d (suc i) (u ∷ us) (x ∷ xs) w = place-within d i us xs (rest u x us xs w)
