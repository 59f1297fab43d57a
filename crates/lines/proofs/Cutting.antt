-- Cutting byte by byte: what a call keeps as it goes through a piece. Assumes nothing.
use Prim.Native.Nat.{ℕ, ◌+◌, ◌≤◌, ◌<◌}
use mathlib.Core.Path.{◌≡◌, refl, ap, ◌∙◌}
use mathlib.Core.List.{List}
use native.Mathlib.Omega.{arith}
use borrow.Author.Tests.{eq-eqb, ne_eqb}
use lib.ListN.{length, get_or, drop, set, drop_of_length-le}
use Rattle.model.proofs.Loops.{drop-next}
use Rattle.lines.specs.declared.Cut.{Cut}
use Rattle.lines.specs.declared.Ended.{Ended}
use Rattle.lines.specs.Cut.{Cutting, cutting, values_at_end, kept_line, end_of, end_line, keep_byte, add_byte, cut_byte, byte_refusal, stopped, feed_from, feeding}

-- ---- a byte

module _ (b : ℕ) (s : Cutting) where
  pub newline-refusal : b ≡ 10 → byte_refusal b s ≡ (end_of s).refusal
  unfolding byte_refusal
  newline-refusal e = rw (eq-eqb b 10 e)

  pub newline-cut : b ≡ 10 → cut_byte b s ≡ end_line s
  unfolding cut_byte
  newline-cut e = rw (eq-eqb b 10 e)

  pub other-refusal : (b ≡ 10 → ⊥) → byte_refusal b s ≡ 0
  unfolding byte_refusal
  other-refusal n = rw (ne_eqb b 10 n)

  pub other_cut : (b ≡ 10 → ⊥) → cut_byte b s ≡ add_byte b s
  unfolding cut_byte
  other_cut n = rw (ne_eqb b 10 n)

  -- what the code makes of it
  pub ended : b ≡ 10 → (e : Ended) → e ≡ end_of s → (v : List ℕ) → v ≡ values_at_end s.cut (kept_line s) s.values
      → cutting e.cut s.space v ≡ cut_byte b s
  unfolding end_line
  ended n e p v q = rw (newline-cut n, p, q)

  pub added : (b ≡ 10 → ⊥) → (c : Cut) → c ≡ keep_byte (length s.space) s.cut → (l : List ℕ) → l ≡ set s.space s.cut.held b
      → cutting c l s.values ≡ cut_byte b s
  unfolding add_byte
  added n c p l q = rw (other_cut n, p, q)

-- ---- a call: i bytes of the piece are used, and s is what stands after them

pub record Halfway (piece : List ℕ) (first s : Cutting) (i : ℕ) : Type 0 where
  pub place : i ≤ length piece
  pub rest : feeding piece first ≡ feed_from i (drop i piece) s

pub at_first : (piece : List ℕ) (first : Cutting) → Halfway piece first first 0
at_first piece first = record { place = omega arith; rest = refl }

module _ (piece : List ℕ) (first s : Cutting) (i : ℕ) (h : Halfway piece first s i) where
  pub at_last : length piece ≤ i → feeding piece first ≡ stopped s i 0 0
  at_last past = h.rest ∙ ap (λ (bs : List ℕ). feed_from i bs s) (drop_of_length-le piece past)

  module _ (inside : i < length piece) where
    pub goes : byte_refusal (get_or piece i 0) s ≡ 0 → (t : Cutting) → t ≡ cut_byte (get_or piece i 0) s → Halfway piece first t (i + 1)
    goes z t e = record {
      place = omega arith;
      rest = h.rest ∙ rw (drop-next 0 piece i inside, eq-eqb _ _ z, e);
    }

    pub stops : (byte_refusal (get_or piece i 0) s ≡ 0 → ⊥)
        → feeding piece first ≡ stopped (cut_byte (get_or piece i 0) s) (i + 1) (byte_refusal (get_or piece i 0) s) s.cut.number
    stops n = h.rest ∙ rw (drop-next 0 piece i inside, ne_eqb _ _ n)
