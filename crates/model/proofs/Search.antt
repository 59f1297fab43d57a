-- Where a search ends: the first place that passes, or the length. Assumes nothing.
use mathlib.Core.Path.{◌≡◌, refl, ap, sym, ◌∙◌}
use mathlib.Core.Bool.{Bool, true, false, cond, not}
use mathlib.Core.List.{List, [], ◌∷◌}
use Prim.Native.Nat.{ℕ, suc}
use native.Mathlib.Omega.{arith}
use lib.Dec.{ltb}
use lib.ListN.{length}
use Rattle.std.specs.Prelude.{Option, None, Some}
use Rattle.std.specs.Option.{unwrap_or}
use Rattle.std.specs.List.{position_or_len}
use Rattle.std.proofs.lemmas.Bool.{ltb-false}
use Rattle.std.proofs.lemmas.List.Recursion.{is_position_or_len}
use Rattle.std.proofs.lemmas.List.Sums.{prefix_len-le-length}

-- what `position(..).unwrap_or(len)` gives, from what `position` promises
pub position-or-len : (p : ℕ → Bool) (xs : List ℕ) → unwrap_or (cond (ltb (position_or_len p xs) (length xs)) (Some (position_or_len p xs)) None) (length xs) ≡ position_or_len p xs
position-or-len p xs = go (ltb (position_or_len p xs) (length xs)) refl
  where
    go : (b : Bool) → ltb (position_or_len p xs) (length xs) ≡ b → unwrap_or (cond b (Some (position_or_len p xs)) None) (length xs) ≡ position_or_len p xs
    go true e = refl
    go false e = omega (arith, ltb-false _ _ e, prefix_len-le-length (λ x. not (p x)) xs)

-- a definition by cases that counts what stands before the first that passes is the library's
pub counts-before : (p : ℕ → Bool) (n : List ℕ → ℕ) → n [] ≡ 0 → ((x : ℕ) (xs : List ℕ) → n (x ∷ xs) ≡ cond (p x) 0 (suc (n xs))) → (xs : List ℕ) → position_or_len p xs ≡ n xs
counts-before p n e h xs = sym (is_position_or_len n p e (λ y ys. h y ys ∙ ap (cond (p y) 0) (omega arith)) xs)
