-- A clause holds for all entrants at once exactly when it holds for each. Assumes nothing.
use mathlib.Core.Path.{◌≡◌, refl, sym, ap, ◌∙◌}
use mathlib.Core.Bool.{Bool, true, not, ◌&&◌, ◌||◌}
use mathlib.Core.List.{List, [], ◌∷◌}
use Prim.Native.Nat.{ℕ, ◌<◌}
use native.Mathlib.Omega.{arith}
use lib.Bits.{bit_or}
use lib.ListN.{get_or}
use Rattle.model.specs.declared.Literal.{Literal}
use Rattle.model.specs.declared.Literal.TheVariants.{Pos, Neg}
use Rattle.std.specs.List.{list_all, list_any}
use Rattle.model.specs.Lists.{range}
use Rattle.model.specs.Words.{full, has}
use Rattle.model.specs.Solution.{set_of}
use Rattle.model.proofs.Words.{has-zero, has-or, has-less, one_has, bit-full, full-lt, inside-words}
use Rattle.model.proofs.Lists.{and_interchange, or_assoc, or-false, every-ext, every-range_ext}
use Rattle.propagation_laws.proofs.Meaning.{literal_for, clauses_for}
use Rattle.constraint_clauses.specs.Holds.{literal_word, clause_word, clause_holds}

every-and : {A : Type 0} (p q : A → Bool) (xs : List A) → (list_all p xs && list_all q xs) ≡ list_all (λ x. p x && q x) xs
every-and p q [] = refl
every-and p q (x ∷ xs) = and_interchange (p x) (list_all p xs) (q x) (list_all q xs) ∙ ap (λ b. p x && q x && b) (every-and p q xs)

every_true : {A : Type 0} (xs : List A) → true ≡ list_all (λ x. true) xs
every_true [] = refl
every_true (x ∷ xs) = every_true xs

every_swap : {A B : Type 0} (p : A → B → Bool) (xs : List A) (ys : List B) → list_all (λ x. list_all (p x) ys) xs ≡ list_all (λ y. list_all (λ x. p x y) xs) ys
every_swap p [] ys = every_true ys
every_swap p (x ∷ xs) ys = ap (λ b. list_all (p x) ys && b) (every_swap p xs ys) ∙ every-and (p x) (λ y. list_all (λ x. p x y) xs) ys

module _ (n : ℕ) (d ids : List ℕ) where
  full-has : (e : ℕ) → e < n → has (full n) e ≡ true
  full-has e h = one_has (full n) e (bit-full n e h)

  -- whether member i has entrant e
  abbrev pub bits : ℕ → ℕ → Bool
  bits e i = has (set_of d (get_or ids i 0)) e

  literal-has : (e : ℕ) → e < n → (l : Literal) → has (literal_word d ids (full n) l) e ≡ literal_for (bits e) l
  unfolding literal_for
  literal-has e h (Pos i) = refl
  literal-has e h (Neg i) = has-less (full n) (set_of d (get_or ids i 0)) e ∙ ap (λ b. b && not (bits e i)) (full-has e h)

  clause-has : (e : ℕ) → e < n → (x : ℕ) (ls : List Literal) → has (clause_word d ids (full n) x ls) e ≡ (has x e || list_any (literal_for (bits e)) ls)
  clause-has e h x [] = sym (or-false (has x e))
  clause-has e h x (l ∷ ls) =
      clause-has e h (bit_or x (literal_word d ids (full n) l)) ls
      ∙ ap (λ b. b || list_any (literal_for (bits e)) ls) (has-or x (literal_word d ids (full n) l) e ∙ ap (λ b. has x e || b) (literal-has e h l))
      ∙ or_assoc (has x e) (literal_for (bits e) l) (list_any (literal_for (bits e)) ls)

  clause-is : (ls : List Literal) → clause_holds d ids (full n) ls ≡ list_all (λ e. list_any (literal_for (bits e)) ls) (range 0 n)
  unfolding clause_holds
  clause-is ls =
      let w = clause_word d ids (full n) 0 ls in
      inside-words n (full n) w (full-lt n)
      ∙ every-range_ext (λ e. not (has (full n) e) || has w e) (λ e. list_any (literal_for (bits e)) ls) 0 n
      (λ e _ h. let k : e < n = omega arith in
      ap (λ b. not b || has w e) (full-has e k) ∙ clause-has e k 0 ls ∙ ap (λ b. b || list_any (literal_for (bits e)) ls) (has-zero e))

  -- and so with all of a constraint's clauses
  pub clauses-are : (cs : List (List Literal)) → list_all (clause_holds d ids (full n)) cs ≡ list_all (λ e. clauses_for (bits e) cs) (range 0 n)
  unfolding clauses_for
  clauses-are cs =
      every-ext (clause_holds d ids (full n)) (λ ls. list_all (λ e. list_any (literal_for (bits e)) ls) (range 0 n)) clause-is cs
      ∙ sym (every_swap (λ e ls. list_any (literal_for (bits e)) ls) (range 0 n) cs)
