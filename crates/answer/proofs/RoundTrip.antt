-- A printed draw is read back: the groups' text gives the groups. Assumes nothing.
use Rattle.std.specs.Prelude.{Ok}
use Prim.Native.Nat.{ℕ, zero, suc, ◌+◌, ◌-◌, ◌^◌, ◌≤◌, ◌<◌, min}
use mathlib.Core.Path.{◌≡◌, refl, sym, ap, ◌∙◌}
use mathlib.Core.Bool.{Bool, true, false, cond}
use mathlib.Core.List.{List, [], ◌∷◌, ◌++◌, map, append_assoc, append-nil}
use native.Mathlib.Nat.{one-mul, le_refl}
use native.Mathlib.Numerals.{add-one}
use native.Mathlib.Decide.{dec_lt}
use native.Mathlib.Omega.{arith}
use borrow.Author.Tests.{ne_eqb, le-leb, le-ltb}
use lib.Bits.{bit_or, or_shifted_r}
use lib.ListN.{length, get_or, take, drop, set, replicate, length-append, length-take, length-replicate}
use lib.Seq.{sets, sets-eq, get_or-append_seam, take-append_seam}
use Rattle.std.specs.List.{flat_map}
use Rattle.model.specs.Lists.{range}
use Rattle.model.specs.Limits.{limits}
use Rattle.model.specs.Sheet.{lines_of}
use Rattle.model.specs.Assignment.{words_of, variable_in}
use Rattle.model.specs.Text.{decimal}
use Rattle.model.specs.Words.{has, word_where}
use Rattle.model.proofs.Lists.{All, all_of, all-imp, all_append, all-each, take_places}
use Rattle.model.proofs.Words.{bit_past, has_one, has-past, has_ext, has_where, where_lt}
use Rattle.encoding_laws.proofs.Decimal.{decimal-digits, decimal-first, decimal-number, decimal-bound}
use Rattle.group_lines.specs.Lines.{number_in, group_in, of_group, entrants_line, words_line, line_read, groups_from, groups_read}
use Rattle.group_lines.proofs.Entrants.{of-new}
use Rattle.answer.specs.Groups.{entrant_text, entrants_text, group_text, group_at, groups_text}
use Rattle.answer.proofs.Assignment.{Plain, in_front, decimal-plain}

-- ---- numbers

number-back : (v : ℕ) → 1 ≤ v → v < 1000 → number_in (decimal v) ≡ v
unfolding number_in variable_in
number-back v some h =
    let short : length (decimal v) ≤ 9 = omega (arith, decimal-bound 2 v (omega arith)) in
    rw (le-leb _ _ short, ne_eqb (get_or (decimal v) 0 0) 48 (λ q. omega (arith, q, decimal-first v some)), decimal-number v)

group-back : (g : ℕ) → 1 ≤ g → g < 1000 → group_in (decimal g ++ (58 ∷ [])) ≡ g
unfolding group_in
group-back g some h =
    let last : length (decimal g ++ (58 ∷ [])) - 1 ≡ length (decimal g) = omega (arith, length-append (decimal g) (58 ∷ [])) in
    rw (last, get_or-append_seam (decimal g) 58 [] 0, take-append_seam (decimal g) (58 ∷ []), number-back g some h)

-- ---- the words of a line

abbrev pub Spaceless : List ℕ → Type 0
Spaceless w = All (λ b. b ≡ 32 → ⊥) w

-- bytes other than a space stand in front of the first word
pub in_first : (w t l : List ℕ) (ls : List (List ℕ)) → Spaceless w → words_of t ≡ l ∷ ls → words_of (w ++ t) ≡ (w ++ l) ∷ ls
in_first [] t l ls p e = e
in_first (b ∷ w) t l ls p e = rw (ne_eqb b 32 p.0, in_first w t l ls p.1 e)

pub decimal_spaceless : (v : ℕ) → Spaceless (decimal v)
decimal_spaceless v = all-imp _ _ (λ b d q. omega (arith, d.0, q)) (decimal v) (decimal-digits v)

abbrev entrant_word : ℕ → ℕ → List (List ℕ)
entrant_word w e = cond (has w e) (decimal (e + 1) ∷ []) []

words_back : (w : ℕ) (es p : List ℕ) → Spaceless p → words_of (p ++ flat_map (entrant_text w) es) ≡ p ∷ flat_map (entrant_word w) es
unfolding entrant_text
words_back w [] p s = in_first p [] [] [] s refl ∙ rw (append-nil p)
words_back w (e ∷ es) p s = go (has w e) refl (words_back w es)
  where
    go : (b : Bool) → has w e ≡ b → ((q : List ℕ) → Spaceless q → words_of (q ++ flat_map (entrant_text w) es) ≡ q ∷ flat_map (entrant_word w) es)
        → words_of (p ++ flat_map (entrant_text w) (e ∷ es)) ≡ p ∷ flat_map (entrant_word w) (e ∷ es)
    go true q ih =
        rw q (in_first p (32 ∷ (decimal (e + 1) ++ flat_map (entrant_text w) es)) [] _ s refl ∙ rw (append-nil p, ih (decimal (e + 1)) (decimal_spaceless (e + 1))))
    go false q ih = rw q (ih p s)

-- ---- the entrants of a line, from bit k on

module _ (n w : ℕ) (inside : w < 2 ^ n) (narrow : n ≤ limits.word) where
  next_bit : (k : ℕ) → has w k ≡ true → bit_or (word_where (has w) k) (2 ^ k) ≡ word_where (has w) (suc k)
  unfolding word_where
  next_bit k e = rw e (ap (bit_or (word_where (has w) k)) (sym (one-mul (2 ^ k))) ∙ or_shifted_r 1 k (word_where (has w) k) (where_lt (has w) k) ∙ omega arith)

  no-bit : (k : ℕ) → has w k ≡ false → word_where (has w) k ≡ word_where (has w) (suc k)
  unfolding word_where
  no-bit k e = rw e (omega arith)

  below : (k : ℕ) → has w k ≡ true → k < n
  below k e = elim (dec_lt k n) [ yes h ↦ h | no f ↦ absurd (omega (arith, has_one w k e, bit_past n k w inside (omega arith))) ]

  entrants-back : (j k : ℕ) → k + j ≤ 64 → entrants_line n (word_where (has w) k) (flat_map (entrant_word w) (range k j)) ≡ Ok (word_where (has w) (k + j))
  entrants-back zero k h = let e : k + 0 ≡ k = omega arith in rw e
  entrants-back (suc j) k h = let e : suc k + j ≡ k + suc j = omega arith in go (has w k) refl (entrants-back j (suc k) (omega arith) ∙ rw e)
    where
      go : (b : Bool) → has w k ≡ b
          → entrants_line n (word_where (has w) (suc k)) (flat_map (entrant_word w) (range (suc k) j)) ≡ Ok (word_where (has w) (k + suc j))
          → entrants_line n (word_where (has w) k) (flat_map (entrant_word w) (range k (suc j))) ≡ Ok (word_where (has w) (k + suc j))
      go true q rest =
          let one : k + 1 - 1 ≡ k = omega arith in
          rw (q, number-back (k + 1) (omega arith) (omega arith), one)
          (of-new n (word_where (has w) k) (k + 1) _ (λ z. omega (arith, z)) (omega (arith, below k q)) (rw one (has-past k (word_where (has w) k) k (where_lt (has w) k) (le_refl k)))
          ∙ rw (next_bit k q) rest)
      go false q rest = rw (q, no-bit k q) rest

  all-bits : word_where (has w) 64 ≡ w
  all-bits = has_ext (word_where (has w) 64) w at
    where
      at : (e : ℕ) → has (word_where (has w) 64) e ≡ has w e
      at e = elim (dec_lt e 64) [ yes h ↦ has_where (has w) 64 e h | no f ↦ has-past 64 (word_where (has w) 64) e (where_lt (has w) 64) (omega arith) ∙ sym (has-past n w e inside (omega arith)) ]

  line-back : (s g : ℕ) → 1 ≤ g → g ≤ s → s ≤ 256 → line_read n s g (decimal g ++ (58 ∷ []) ++ entrants_text w) ≡ Ok w
  unfolding line_read of_group entrants_text word_where
  line-back s g some known few =
      ap (words_line n s g) (words_back w (range 0 64) (decimal g ++ (58 ∷ [])) (all_append _ (decimal g) (58 ∷ []) (decimal_spaceless g) ((λ q. omega (arith, q)), tt)))
      ∙ rw (group-back g some (omega arith), ne_eqb g 0 (λ z. omega (arith, z)), le-ltb s g known, le-ltb g g (le_refl g))
      (entrants-back 64 0 (omega arith) ∙ rw all-bits)

-- ---- line after line

entrant_plain : (w e : ℕ) → Plain (entrant_text w e)
unfolding entrant_text
entrant_plain w e = go (has w e)
  where
    go : (b : Bool) → Plain (cond b ((32 ∷ []) ++ decimal (e + 1)) [])
    go true = ((λ q. omega (arith, q)), decimal-plain (e + 1))
    go false = tt

module _ (g w : ℕ) where
  abbrev line : List ℕ
  line = decimal g ++ (58 ∷ []) ++ entrants_text w

  line_plain : Plain line
  unfolding entrants_text
  line_plain =
      all_append _ (decimal g ++ (58 ∷ [])) (entrants_text w) (all_append _ (decimal g) (58 ∷ []) (decimal-plain g) ((λ q. omega (arith, q)), tt))
      (all-each _ (entrant_text w) (range 0 64) (all_of _ (entrant_plain w) (range 0 64)))

  lines-back : (rest : List ℕ) → lines_of (group_text g w ++ rest) ≡ line ∷ lines_of rest
  unfolding group_text
  lines-back rest = rw (append_assoc line (10 ∷ []) rest) (in_front line (10 ∷ rest) [] (lines_of rest) line_plain refl ∙ rw (append-nil line))

drop-zeros : (m k : ℕ) → drop {A = ℕ} k (replicate m 0) ≡ replicate (m - k) 0
drop-zeros m zero = let e : m - 0 ≡ m = omega arith in rw e
drop-zeros zero (suc k) = let e : 0 - suc k ≡ 0 = omega arith in rw e
drop-zeros (suc m) (suc k) = let e : suc m - suc k ≡ m - k = omega arith in rw e (drop-zeros m k)

-- the first s words over zeros
stored : (words : List ℕ) (m s : ℕ) → s ≤ length words → s ≤ m
    → sets (replicate m 0) 0 (map (λ k. get_or words k 0) (range 0 s)) ≡ take s words ++ replicate (m - s) 0
stored words m s long few =
    let size : length (take s words) ≡ s = length-take s words ∙ omega arith in
    let z : 0 + s ≡ s = omega arith in
    ap (sets (replicate m 0) 0) (sym (take_places 0 words s long)) ∙ sets-eq (take s words) (replicate m 0) 0 (omega (arith, size, length-replicate {A = ℕ} m 0))
    ∙ rw (size, z, drop-zeros m s)

module _ (words : List ℕ) (n s : ℕ) (narrow : n ≤ limits.word) (few : s ≤ limits.groups) (inside : (i : ℕ) → i < s → get_or words i 0 < 2 ^ n) where
  groups-back : (j i : ℕ) (groups : List ℕ) → i + j ≡ s
      → groups_from n s (lines_of (flat_map (group_at words) (range i j))) i groups ≡ Ok (sets groups i (map (λ k. get_or words k 0) (range i j)))
  groups-back zero i groups e = rw (le-ltb i s (omega arith))
  groups-back (suc j) i groups e =
      let w = get_or words i 0 in
      let read = line-back n w (inside i (omega arith)) narrow s (i + 1) (omega arith) (omega arith) few in
      ap (λ (ls : List (List ℕ)). groups_from n s ls i groups) (lines-back (i + 1) w (flat_map (group_at words) (range (suc i) j)))
      ∙ rw (read, add-one i) (groups-back j (suc i) (set groups i w) (omega arith))

  -- the groups' text gives the groups, zero past s
  pub read_back_lem : s ≤ length words → groups_read (groups_text words s) n s ≡ Ok (take s words ++ replicate (256 - s) 0)
  unfolding groups_read groups_text
  read_back_lem long =
      let a : min n limits.word ≡ n = omega arith in
      let b : min s limits.groups ≡ s = omega arith in
      rw (a, b, ← stored words 256 s long few) (groups-back s 0 (replicate 256 0) (omega arith))
