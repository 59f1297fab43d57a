-- Writes of the groups' text, and its length. Assumes nothing.
use Prim.Native.Nat.{ℕ, ◌+◌, ◌*◌, ◌≤◌, ◌<◌, min}
use mathlib.Core.Path.{◌≡◌, refl, ap, ◌∙◌}
use mathlib.Core.Bool.{Bool, true, false, cond}
use mathlib.Core.List.{List, [], ◌∷◌, ◌++◌}
use native.Mathlib.Omega.{arith}
use lib.Dec.{ltb, eqb}
use lib.ListN.{length, get_or, take, length-append}
use Rattle.model.specs.declared.Written.{Written}
use Rattle.model.specs.declared.Written.TheVariants.{Bytes, Refused}
use Rattle.model.specs.Limits.{limits}
use Rattle.std.specs.List.{flat_map}
use Rattle.model.specs.Lists.{range, stop}
use Rattle.model.specs.Words.{has}
use Rattle.model.specs.Text.{decimal, written_refusal, written_length}
use Rattle.encoding_laws.proofs.Decimal.{decimal-bound}
use Rattle.text.specs.Put.{Wrote, placed, place_after}
use Rattle.text.proofs.Writes.{wrote, then, kept, front}
use Rattle.answer.specs.Values.{fitted}
use Rattle.answer.specs.Groups.{entrant_text, entrants_text, group_text, group_at, groups_text, written_groups, groups_refusal, groups_length}
use Rattle.answer.proofs.Writing.{then-put, each-length, fits}

-- ---- an entrant

module _ (w e : ℕ) where
  pub entrant-in : has w e ≡ true → entrant_text w e ≡ (32 ∷ []) ++ decimal (e + 1)
  unfolding entrant_text
  entrant-in h = rw h

  pub entrant-out : has w e ≡ false → entrant_text w e ≡ []
  unfolding entrant_text
  entrant-out h = rw h

  entrant-length : e < limits.word → length (entrant_text w e) ≤ 3
  unfolding entrant_text
  entrant-length h = go (has w e)
    where
      go : (b : Bool) → length (cond b ((32 ∷ []) ++ decimal (e + 1)) []) ≤ 3
      go true = omega (arith, decimal-bound 1 (e + 1) (omega arith))
      go false = omega arith

-- ---- lengths

entrants-length : (w : ℕ) → length (entrants_text w) ≤ 3 * limits.word
unfolding entrants_text
entrants-length w = each-length (entrant_text w) 3 limits.word (entrant-length w)

group-length : (number w : ℕ) → number ≤ limits.groups → length (group_text number w) ≤ 3 * limits.word + 5
unfolding group_text
group-length number w h = simp length-append (omega (arith, decimal-bound 2 number (omega arith), entrants-length w))

pub groups-length : (words : List ℕ) (k : ℕ) → k ≤ limits.groups → length (flat_map (group_at words) (range 0 k)) ≤ limits.groups * (3 * limits.word + 5)
groups-length words k h =
    omega (arith, each-length (group_at words) (3 * limits.word + 5) k (λ i lt. group-length (i + 1) (get_or words i 0) (omega arith)))

-- ---- a group's line, part by part

line-parts : (number w : ℕ) → length (group_text number w) ≡ length (decimal number) + 1 + length (entrants_text w) + 1
unfolding group_text
line-parts number w = simp length-append

module _ (number w : ℕ) (xs : List ℕ) (at : ℕ) (room : at + length (group_text number w) ≤ length xs) where
  pub numbered : {ys zs : List ℕ} {n m : ℕ} → n ≡ place_after (decimal number) at (length xs) → ys ≡ placed (decimal number) at xs
      → m ≡ place_after (58 ∷ []) n (length ys) → zs ≡ placed (58 ∷ []) n ys → Wrote (decimal number ++ (58 ∷ [])) at xs zs m
  numbered p q r s =
      then-put (58 ∷ []) (wrote p q (omega (arith, line-parts number w))) r s (omega (arith, line-parts number w, length-append (decimal number) (58 ∷ [])))

  pub entrants-room : {ys : List ℕ} {n : ℕ} → Wrote (decimal number ++ (58 ∷ [])) at xs ys n → n + length (entrants_text w) ≤ length ys
  entrants-room v = omega (arith, line-parts number w, kept v, v.next, length-append (decimal number) (58 ∷ []))

  pub line_wrote : {ys zs us : List ℕ} {n m k : ℕ} → Wrote (decimal number ++ (58 ∷ [])) at xs ys n → Wrote (entrants_text w) n ys zs m
      → k ≡ place_after (10 ∷ []) m (length zs) → us ≡ placed (10 ∷ []) m zs → Wrote (group_text number w) at xs us k
  unfolding group_text
  line_wrote v e p q = then-put (10 ∷ []) (then v e) p q room

-- ---- all lines, measured in an array of their own and copied

module _ (words : List ℕ) (s : ℕ) {xs ys : List ℕ} {k n : ℕ} (e : k ≡ min s limits.groups)
    (w : Wrote (flat_map (group_at words) (range 0 k)) 0 xs ys n) where
  all-text : flat_map (group_at words) (range 0 k) ≡ groups_text words s
  unfolding groups_text
  all-text = ap (λ (j : ℕ). flat_map (group_at words) (range 0 j)) e

  -- what `copy_out` gives of the front of the array that the text was written to
  pub copied : (buf : List ℕ) {r : Written} {after : List ℕ} → r ≡ fitted (take n ys) (length buf) → after ≡ placed (take n ys) 0 buf
      → (r ≡ written_groups words s (length buf)) × (after ≡ placed (groups_text words s) 0 buf)
  unfolding written_groups
  copied buf p q =
      let same : take n ys ≡ groups_text words s = front w ∙ all-text in
      (p ∙ ap (λ (t : List ℕ). fitted t (length buf)) same, q ∙ ap (λ (t : List ℕ). placed t 0 buf) same)

pub groups-inside : (words : List ℕ) (s room n : ℕ) → Bytes n ≡ written_groups words s room → n ≤ room
unfolding written_groups
groups-inside words s room n e = fits room (length (groups_text words s)) n e

-- ---- the number and the value of the answer

module _ (words : List ℕ) (s room : ℕ) where
  refusal_is : written_refusal (written_groups words s room) ≡ groups_refusal words s room
  unfolding written_groups groups_refusal
  refusal_is = go (ltb room (length (groups_text words s)))
    where
      go : (x : Bool) → written_refusal (cond x (Refused 24) (Bytes (length (groups_text words s)))) ≡ stop x 24 0
      go true = refl
      go false = refl

  length-is : written_length (written_groups words s room) ≡ groups_length words s room
  unfolding written_groups groups_length groups_refusal
  length-is = go (ltb room (length (groups_text words s)))
    where
      go : (x : Bool) → written_length (cond x (Refused 24) (Bytes (length (groups_text words s)))) ≡ cond (eqb (stop x 24 0) 0) (length (groups_text words s)) 0
      go true = refl
      go false = refl

  pub with_number : {A : Type 0} (w : Written) → (w ≡ written_groups words s room) × A
      → (w ≡ written_groups words s room) × (A × ((written_refusal w ≡ groups_refusal words s room) × (written_length w ≡ groups_length words s room)))
  with_number w (e, a) = (e, (a, (ap written_refusal e ∙ refusal_is, ap written_length e ∙ length-is)))
