-- Laws of a code's meaning: the union member by member, and the sets of the first members. Assumes nothing.
use mathlib.Core.Path.{◌≡◌, sym, ap, ◌∙◌}
use mathlib.Core.Bool.{Bool, not}
use mathlib.Core.List.{List, map}
use Prim.Native.Nat.{ℕ, ◌+◌, ◌≤◌, ◌<◌}
use native.Mathlib.Omega.{arith}
use lib.Bits.{bit_and, bit_or, or_zero_r}
use lib.Dec.{eqb}
use lib.ListN.{length, get_or, take, drop, length-take, length-map, drop_of_length-le}
use lib.Seq.{get_or-take}
use Rattle.model.specs.Limits.{limits}
use Rattle.model.specs.Words.{less, inside}
use Rattle.model.specs.Clauses.{member_count}
use Rattle.model.specs.Solution.{union, meaning, set_of}
use Rattle.model.proofs.Lists.{get_or-map_in}
use Rattle.model.proofs.Loops.{drop-next}
use Rattle.model.proofs.Words.{bit-or, bit_ext}

-- ---- the union

or_assoc : (a b c : ℕ) → bit_or a (bit_or b c) ≡ bit_or (bit_or a b) c
or_assoc a b c =
    bit_ext (bit_or a (bit_or b c)) (bit_or (bit_or a b) c)
    (λ e. omega (arith, bit-or e a (bit_or b c), bit-or e b c, bit-or e (bit_or a b) c, bit-or e a b))

module _ (d ids : List ℕ) (k : ℕ) where
  abbrev sets : List ℕ
  sets = map (set_of d) (take (k + 1) ids)

  sets-length : length sets ≡ length (take (k + 1) ids)
  sets-length = length-map (take (k + 1) ids) (set_of d)

  -- w has the sets from the second one on, up to place i
  abbrev pub Joined : ℕ → ℕ → Type 0
  Joined w i = union (drop 1 sets) ≡ bit_or w (union (drop i sets))

  pub joined-next : (w i x : ℕ) → Joined w i → i < length ids → i ≤ k → x ≡ set_of d (get_or ids i 0) → Joined (bit_or w x) (i + 1)
  unfolding union
  joined-next w i x j h l e =
      let inside : i < length (take (k + 1) ids) = omega (arith, length-take (k + 1) ids) in
      let here : get_or sets i 0 ≡ x = get_or-map_in (set_of d) (take (k + 1) ids) i 0 0 inside ∙ ap (set_of d) (get_or-take (k + 1) ids i 0 (omega arith)) ∙ sym e in
      j ∙ ap (λ (y : List ℕ). bit_or w (union y)) (drop-next 0 sets i (omega (arith, sets-length)))
      ∙ ap (λ (y : ℕ). bit_or w (bit_or y (union (drop (i + 1) sets)))) here
      ∙ or_assoc w x (union (drop (i + 1) sets))

  pub joined-done : (w i : ℕ) → Joined w i → length (take (k + 1) ids) ≤ i → w ≡ union (drop 1 sets)
  unfolding union
  joined-done w i j h =
      sym (j ∙ ap (λ (y : List ℕ). bit_or w (union y)) (drop_of_length-le sets {i = i} (omega (arith, sets-length))) ∙ or_zero_r w)

-- ---- a code

-- the set of member i, of the first m
first : (d ids : List ℕ) (m i : ℕ) → i < m → i < length ids → get_or (map (set_of d) (take m ids)) i 0 ≡ set_of d (get_or ids i 0)
first d ids m i h l =
    get_or-map_in (set_of d) (take m ids) i 0 0 (omega (arith, length-take m ids)) ∙ ap (set_of d) (get_or-take m ids i 0 h)

module _ (d ids : List ℕ) (code k : ℕ) (wide : length ids ≡ limits.members) (a : ℕ) (p : a ≡ set_of d (get_or ids 0 0)) where
  abbrev Says : Bool → Type 0
  Says b = b ≡ meaning code (map (set_of d) (take (member_count code k) ids))

  pub says-6 : code ≡ 6 → (u : ℕ) → u ≡ union (drop 1 (map (set_of d) (take (k + 1) ids))) → Says (eqb a u)
  unfolding meaning member_count
  says-6 e u q = rw (e, p, q, first d ids (k + 1) 0 (omega arith) (omega arith))

  module _ (b : ℕ) (q : b ≡ set_of d (get_or ids 1 0)) where
    pub says-1 : code ≡ 1 → Says (eqb a b)
    unfolding meaning member_count
    says-1 e = rw (e, p, q, first d ids 2 0 (omega arith) (omega arith), first d ids 2 1 (omega arith) (omega arith))

    pub says-2 : code ≡ 2 → Says (eqb (bit_and a b) a)
    unfolding meaning member_count inside
    says-2 e = rw (e, p, q, first d ids 2 0 (omega arith) (omega arith), first d ids 2 1 (omega arith) (omega arith))

    pub says-7 : code ≡ 7 → Says (not (eqb a b))
    unfolding meaning member_count
    says-7 e = rw (e, p, q, first d ids 2 0 (omega arith) (omega arith), first d ids 2 1 (omega arith) (omega arith))

    module _ (c : ℕ) (r : c ≡ set_of d (get_or ids 2 0)) where
      pub says-3 : code ≡ 3 → Says (eqb a (bit_and b c))
      unfolding meaning member_count
      says-3 e = rw (e, p, q, r, first d ids 3 0 (omega arith) (omega arith), first d ids 3 1 (omega arith) (omega arith), first d ids 3 2 (omega arith) (omega arith))

      pub says-4 : code ≡ 4 → Says (eqb a (bit_or b c))
      unfolding meaning member_count
      says-4 e = rw (e, p, q, r, first d ids 3 0 (omega arith) (omega arith), first d ids 3 1 (omega arith) (omega arith), first d ids 3 2 (omega arith) (omega arith))

      pub says-5 : code ≡ 5 → (x : ℕ) → x ≡ less b c → Says (eqb a x)
      unfolding meaning member_count
      says-5 e x s = rw (e, s, p, q, r, first d ids 3 0 (omega arith) (omega arith), first d ids 3 1 (omega arith) (omega arith), first d ids 3 2 (omega arith) (omega arith))
