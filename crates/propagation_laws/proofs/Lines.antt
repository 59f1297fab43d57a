-- Texts and their lines: a text that ends in byte 10 is its lines, each with its byte 10. Assumes nothing.
use mathlib.Core.Path.{◌≡◌, refl, sym, ap, ap₂, ◌∙◌}
use Prim.Native.Nat.{ℕ, suc, ◌-◌}
use native.Mathlib.Omega.{arith}
use mathlib.Core.Bool.{Bool, true, false, cond}
use mathlib.Core.List.{List, [], ◌∷◌, ◌++◌}
use borrow.Author.Tests.{eqb-true}
use lib.Dec.{T, eqb}
use lib.ListN.{length, get_or}
use Rattle.model.specs.Lists.{total}
use Rattle.model.specs.Sheet.{on_first, lines_of}
use Rattle.model.specs.Demand.{text_of}
use Rattle.model.proofs.Lists.{T_true, length-each}

-- empty, or the last byte is 10
abbrev pub ends : List ℕ → Bool
ends [] = true
ends (x ∷ []) = eqb x 10
ends (x ∷ y ∷ ys) = ends (y ∷ ys)

pub ends_last : (x : ℕ) (xs : List ℕ) → eqb (get_or (x ∷ xs) (length (x ∷ xs) - 1) 0) 10 ≡ ends (x ∷ xs)
ends_last x [] = refl
ends_last x (y ∷ ys) =
    ap (λ (k : ℕ). eqb (get_or (x ∷ y ∷ ys) k 0) 10) {x = length (x ∷ y ∷ ys) - 1} {y = suc (length (y ∷ ys) - 1)} (omega arith) ∙ ends_last y ys

-- ---- a text is its lines

some-line : (b : ℕ) (bs : List ℕ) → (l : List ℕ) × ((ls : List (List ℕ)) × (lines_of (b ∷ bs) ≡ l ∷ ls))
some-line b bs = go (eqb b 10) (lines_of bs)
  where
    go : (t : Bool) (rest : List (List ℕ)) → (l : List ℕ) × ((ls : List (List ℕ)) × (cond t ([] ∷ rest) (on_first b rest) ≡ l ∷ ls))
    go true rest = ([], (rest, refl))
    go false [] = (b ∷ [], ([], refl))
    go false (l ∷ ls) = (b ∷ l, (ls, refl))

pub text-lines : (b : List ℕ) → T (ends b) → text_of (lines_of b) ≡ b
unfolding text_of
text-lines [] t = refl
text-lines (x ∷ []) t = rw (T_true (eqb x 10) t) (ap {B = List ℕ} (λ y. y ∷ []) (sym (eqb-true x 10 (T_true (eqb x 10) t))))
text-lines (x ∷ y ∷ ys) t = go (eqb x 10) refl (some-line y ys) (text-lines (y ∷ ys) t)
  where
    go : (b : Bool) → eqb x 10 ≡ b → (l : List ℕ) × ((ls : List (List ℕ)) × (lines_of (y ∷ ys) ≡ l ∷ ls)) → text_of (lines_of (y ∷ ys)) ≡ y ∷ ys
        → text_of (cond b ([] ∷ lines_of (y ∷ ys)) (on_first x (lines_of (y ∷ ys)))) ≡ x ∷ y ∷ ys
    go true e s ih = ap₂ {C = List ℕ} (λ z zs. z ∷ zs) (sym (eqb-true x 10 e)) ih
    go false e s ih =
        ap (λ (z : List (List ℕ)). text_of (on_first x z)) s.1.1
        ∙ ap {B = List ℕ} (λ z. x ∷ z) (ap text_of (sym s.1.1) ∙ ih)

-- ---- lines as a text

pub text-ends : (ls : List (List ℕ)) → T (ends (text_of ls))
unfolding text_of
text-ends [] = tt
text-ends (l ∷ ls) = line l (text_of ls) (text-ends ls)
  where
    line : (l r : List ℕ) → T (ends r) → T (ends ((l ++ (10 ∷ [])) ++ r))
    line [] [] t = tt
    line [] (y ∷ r) t = t
    line (x ∷ []) r t = line [] r t
    line (x ∷ y ∷ l) r t = line (y ∷ l) r t

pub text-length : (ls : List (List ℕ)) → length (text_of ls) ≡ total (λ l. length (l ++ (10 ∷ []))) ls
unfolding text_of
text-length ls = length-each (λ l. l ++ (10 ∷ [])) ls
