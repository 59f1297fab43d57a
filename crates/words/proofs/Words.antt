-- An array that `from_fn` made, place by place. Assumes nothing.
use mathlib.Core.Path.{◌≡◌, refl, ap, ◌∙◌, subst}
use mathlib.Core.List.{List, map}
use Prim.Native.Nat.{ℕ, zero, suc, ◌+◌, ◌≤◌, ◌<◌}
use native.Mathlib.Numerals.{add-one}
use native.Mathlib.Omega.{arith}
use native.Mathlib.Decide.{dec_lt}
use lib.ListN.{get_or}
use denote.Param.Members.{Mut}
use Rattle.std.specs.Fn.{Called}
use Rattle.std.specs.Array.{IsFromFnResult, IsFromFnResultFrom}
use Rattle.std.proofs.lemmas.List.FromFn.{fill_by_all}
use Rattle.model.specs.Lists.{range}
use Rattle.numbering.proofs.Arrays.{ranges}

module _ {F B : Type 0} (g : Mut F (ℕ × Unit {0}) B) (f : ℕ → B) (c : F) (ys : List B) where
  -- each call from c on leaves it and gives f
  abbrev pub Gives : Type 0
  Gives = (i : ℕ) (r : B) (q : F) → Called g c (i, tt) r q → (r ≡ f i) × (q ≡ c)

  each_place : Gives → (n i k : ℕ) → IsFromFnResultFrom g c ys i n → i ≤ k → k < i + n → get_or ys k (f 0) ≡ f k
  each_place law zero i k e l h = absurd (omega arith)
  each_place law (suc n) i k (q, y, here, call, rest) l h =
      at (dec_lt i k) (λ m. each_place law n (i + 1) k (subst (λ (p : F). IsFromFnResultFrom g p ys (i + 1) n) (law i y q call).1 rest) (omega arith) (omega arith))
    where
      at : Dec (i < k) → (i < k → get_or ys k (f 0) ≡ f k) → get_or ys k (f 0) ≡ f k
      at (yes m) later = later m
      at (no m) later = let e : k ≡ i = omega arith in rw e (here.1 (f 0) ∙ (law i y q call).0)

  pub made : (n : ℕ) → Gives → IsFromFnResult g c ys n → ys ≡ map f (range 0 n)
  made n law e =
      fill_by_all f ys n (f 0) e.long (λ k h. each_place law n 0 k e.each (omega arith) (omega arith)) ∙ ap (map f) (ranges 0 n)
