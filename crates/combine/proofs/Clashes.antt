-- Laws of where two tables clash. Assumes nothing.
use mathlib.Core.Path.{◌≡◌, refl, sym, ap₂, ◌∙◌}
use Prim.Native.Nat.{ℕ, suc, ◌+◌, ◌-◌, ◌≤◌, ◌<◌}
use native.Mathlib.Numerals.{add-one}
use native.Mathlib.Omega.{arith}
use mathlib.Core.Bool.{Bool, true, false, ◌&&◌}
use mathlib.Core.List.{List, [], ◌∷◌}
use lib.Dec.{T}
use lib.ListN.{length, get_or, drop, drop_of_length-le}
use Rattle.model.specs.declared.Group.{Group}
use Rattle.model.specs.Lists.{pairwise, range}
use Rattle.model.specs.Model.{zero_group}
use Rattle.model.specs.Combine.{fits}
use Rattle.model.proofs.Lists.{T_true, true-T, and_left, and_right, and_both}
use Rattle.model.proofs.Loops.{drop-next}
use Rattle.combine.specs.declared.Clash.{Clash}
use Rattle.combine.specs.Clash.{first_where, no_clash, clash_in, first_clash}

-- ---- the first of the numbers e + 1 to k that passes a test

module _ (p : ℕ → Bool) (e k : ℕ) where
  one_more : e < k → range (e + 1) (k - e) ≡ (e + 1) ∷ range (e + 1 + 1) (k - (e + 1))
  one_more h = let s : k - e ≡ suc (k - (e + 1)) = omega arith in rw (s, add-one (e + 1)) refl

  pub first-here : e < k → p (e + 1) ≡ true → first_where p (range (e + 1) (k - e)) ≡ e + 1
  first-here h t = rw (one_more h, t) refl

  pub first_next : e < k → p (e + 1) ≡ false → first_where p (range (e + 1) (k - e)) ≡ first_where p (range (e + 1 + 1) (k - (e + 1)))
  first_next h t = rw (one_more h, t) refl

  pub first-none : k ≤ e → first_where p (range (e + 1) (k - e)) ≡ 0
  first-none h = let z : k - e ≡ 0 = omega arith in rw z refl

-- ---- the first clash of what stands from place i on

none_right : (g : ℕ) (xs : List Group) → first_clash g xs [] ≡ no_clash
none_right g [] = refl
none_right g (x ∷ xs) = refl

module _ (xs ys : List Group) (i : ℕ) where
  abbrev pub From : Clash
  From = first_clash (i + 1) (drop i xs) (drop i ys)

  pub no-first : length xs ≤ i → From ≡ no_clash
  no-first h = rw (drop_of_length-le xs h) refl

  pub no_second : length ys ≤ i → From ≡ no_clash
  no_second h = rw (drop_of_length-le ys h) (none_right (i + 1) (drop i xs))

  module _ (h : i < length xs) (k : i < length ys) where
    at_place : From ≡ first_clash (i + 1) (get_or xs i zero_group ∷ drop (i + 1) xs) (get_or ys i zero_group ∷ drop (i + 1) ys)
    at_place = ap₂ (first_clash (i + 1)) (drop-next zero_group xs i h) (drop-next zero_group ys i k)

    pub clash-here : fits (get_or xs i zero_group) (get_or ys i zero_group) ≡ false → From ≡ clash_in (i + 1) (get_or xs i zero_group) (get_or ys i zero_group)
    clash-here t = at_place ∙ rw t refl

    pub clash-later : fits (get_or xs i zero_group) (get_or ys i zero_group) ≡ true → From ≡ first_clash (i + 1 + 1) (drop (i + 1) xs) (drop (i + 1) ys)
    clash-later t = at_place ∙ rw (t, sym (add-one (i + 1))) refl

-- ---- two tables of one length fit exactly where they have no clash

pub fit_none : (g : ℕ) (xs ys : List Group) → T (pairwise fits xs ys) → (first_clash g xs ys).group ≡ 0
fit_none g [] ys t = refl
fit_none g (x ∷ xs) [] t = refl
fit_none g (x ∷ xs) (y ∷ ys) t =
    rw (T_true (fits x y) (and_left (fits x y) (pairwise fits xs ys) t)) (fit_none (suc g) xs ys (and_right (fits x y) (pairwise fits xs ys) t))

pub none-fit : (g : ℕ) (xs ys : List Group) → length xs ≡ length ys → (g ≡ 0 → ⊥) → (first_clash g xs ys).group ≡ 0 → T (pairwise fits xs ys)
unfolding clash_in
none-fit g [] [] e n z = tt
none-fit g [] (y ∷ ys) e n z = absurd (omega arith)
none-fit g (x ∷ xs) [] e n z = absurd (omega arith)
none-fit g (x ∷ xs) (y ∷ ys) e n z = go (fits x y) refl (none-fit (suc g) xs ys (omega arith) (λ (a : suc g ≡ 0). omega arith))
  where
    go : (b : Bool) → fits x y ≡ b → ((first_clash (suc g) xs ys).group ≡ 0 → T (pairwise fits xs ys)) → T (fits x y && pairwise fits xs ys)
    go true f later = and_both (fits x y) (pairwise fits xs ys) (true-T (fits x y) f) (later (rw f at z))
    go false f later = absurd (n (rw f at z))
