-- Laws of bits over many words, 64 to a word: bit i is bit i % 64 of word i / 64. Assumes nothing.
use mathlib.Core.Path.{◌≡◌, refl, sym, ap, ◌∙◌}
use Prim.Native.Nat.{ℕ, zero, suc, ◌/◌, ◌%◌, ◌^◌, ◌<◌}
use native.Mathlib.Decide.{ℕ_discrete}
use native.Mathlib.Omega.{arith}
use mathlib.Core.Bool.{Bool, true, false, not, ◌&&◌, ◌||◌}
use mathlib.Core.List.{List}
use borrow.Author.Tests.{eq-eqb, ne_eqb}
use lib.Bits.{bit_or}
use lib.Dec.{eqb}
use lib.ListN.{length, get_or, set}
use lib.Seq.{get_or-set_same, get_or-set_other}
use Rattle.model.specs.Words.{less, has}
use Rattle.model.proofs.Lists.{or-false}
use Rattle.model.proofs.Words.{has-zero, has-or, has-less, has_first, has-next}

-- two tests that stand and fall together
pub same_test : (a b c d : ℕ) → (a ≡ b → c ≡ d) → (c ≡ d → a ≡ b) → eqb a b ≡ eqb c d
same_test a b c d to from = go (ℕ_discrete a b)
  where
    go : Dec (a ≡ b) → eqb a b ≡ eqb c d
    go (yes p) = eq-eqb a b p ∙ sym (eq-eqb c d (to p))
    go (no f) = ne_eqb a b f ∙ sym (ne_eqb c d (λ q. f (from q)))

has_power : (e j : ℕ) → has (2 ^ e) j ≡ eqb e j
has_power zero zero = has_first 1
has_power zero (suc j) = has-next 1 j ∙ has-zero j ∙ sym (ne_eqb 0 (suc j) (λ q. omega arith))
has_power (suc e) zero = has_first (2 ^ suc e) ∙ same_test (2 ^ suc e % 2) 1 (suc e) 0 (λ q. omega arith) (λ q. omega arith)
has_power (suc e) (suc j) =
    let h : 2 ^ suc e / 2 ≡ 2 ^ e = omega arith in
    has-next (2 ^ suc e) j ∙ ap (λ (w : ℕ). has w j) h ∙ has_power e j ∙ same_test e j (suc e) (suc j) (λ q. omega arith) (λ q. omega arith)

and-true : (b : Bool) → b ≡ (b && true)
and-true true = refl
and-true false = refl

-- bit j after bit i is set, and after it is cleared
module _ (ws : List ℕ) (i : ℕ) (h : i / 64 < length ws) (j : ℕ) where
  power-is : j / 64 ≡ i / 64 → has (2 ^ (i % 64)) (j % 64) ≡ eqb i j
  power-is q = has_power (i % 64) (j % 64) ∙ same_test (i % 64) (j % 64) i j (λ p. omega arith) (ap (λ (x : ℕ). x % 64))

  other : (j / 64 ≡ i / 64 → ⊥) → eqb i j ≡ false
  other f = ne_eqb i j (λ e. f (ap (λ (x : ℕ). x / 64) (sym e)))

  pub flag-set : has (get_or (set ws (i / 64) (bit_or (get_or ws (i / 64) 0) (2 ^ (i % 64)))) (j / 64) 0) (j % 64) ≡ (has (get_or ws (j / 64) 0) (j % 64) || eqb i j)
  flag-set = go (ℕ_discrete (j / 64) (i / 64))
    where
      go : Dec (j / 64 ≡ i / 64)
          → has (get_or (set ws (i / 64) (bit_or (get_or ws (i / 64) 0) (2 ^ (i % 64)))) (j / 64) 0) (j % 64) ≡ (has (get_or ws (j / 64) 0) (j % 64) || eqb i j)
      go (yes q) =
          rw (q, get_or-set_same ws (i / 64) (bit_or (get_or ws (i / 64) 0) (2 ^ (i % 64))) 0 h, has-or (get_or ws (i / 64) 0) (2 ^ (i % 64)) (j % 64))
          (ap (λ (b : Bool). has (get_or ws (i / 64) 0) (j % 64) || b) (power-is q))
      go (no f) =
          rw (get_or-set_other ws (i / 64) (j / 64) (bit_or (get_or ws (i / 64) 0) (2 ^ (i % 64))) 0 f, other f) (sym (or-false (has (get_or ws (j / 64) 0) (j % 64))))

  pub flag_cleared : has (get_or (set ws (i / 64) (less (get_or ws (i / 64) 0) (2 ^ (i % 64)))) (j / 64) 0) (j % 64) ≡ (has (get_or ws (j / 64) 0) (j % 64) && not (eqb i j))
  flag_cleared = go (ℕ_discrete (j / 64) (i / 64))
    where
      go : Dec (j / 64 ≡ i / 64)
          → has (get_or (set ws (i / 64) (less (get_or ws (i / 64) 0) (2 ^ (i % 64)))) (j / 64) 0) (j % 64) ≡ (has (get_or ws (j / 64) 0) (j % 64) && not (eqb i j))
      go (yes q) =
          rw (q, get_or-set_same ws (i / 64) (less (get_or ws (i / 64) 0) (2 ^ (i % 64))) 0 h, has-less (get_or ws (i / 64) 0) (2 ^ (i % 64)) (j % 64))
          (ap (λ (b : Bool). has (get_or ws (i / 64) 0) (j % 64) && not b) (power-is q))
      go (no f) =
          rw (get_or-set_other ws (i / 64) (j / 64) (less (get_or ws (i / 64) 0) (2 ^ (i % 64))) 0 f, other f) (and-true (has (get_or ws (j / 64) 0) (j % 64)))
