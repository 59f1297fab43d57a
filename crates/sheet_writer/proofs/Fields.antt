-- A field's text and a row of them, read back field by field. Assumes nothing.
use mathlib.Core.Path.{◌≡◌, refl, sym, ap, ◌∙◌}
use Prim.Native.Nat.{ℕ, zero, suc, ◌+◌, ◌-◌, ◌*◌, ◌/◌, ◌%◌, ◌≤◌, ◌<◌}
use native.Mathlib.Omega.{arith}
use native.Mathlib.Decide.{dec_lt}
use mathlib.Core.Bool.{Bool, true, false}
use mathlib.Core.List.{List, [], ◌∷◌, ◌++◌}
use borrow.Author.Tests.{lt-ltb, le-ltb, le-leb, eq-eqb, ne_eqb}
use lib.ListN.{length, get_or, drop, replicate, length-append, length-replicate, get_or-eq_default}
use lib.Seq.{drop-cons, drop-nil, take_at, drop-append-add}
use Rattle.model.specs.declared.Field.{Field}
use Rattle.model.specs.declared.Field.TheVariants.{Number}
use Rattle.std.specs.List.{list_all, flat_map}
use Rattle.model.specs.Lists.{range}
use Rattle.model.specs.Sheet.{after_spaces, field_value, field_number, field_at, value_at, mark_at, good_field, form_refusal}
use Rattle.model.specs.Text.{decimal, field_text}
use Rattle.model.proofs.Lists.{T_true, range-every, All, all_append, all-imp, all-each, all-place}
use Rattle.encoding_laws.proofs.Decimal.{decimal-digits, decimal-some, decimal-number, decimal-bound}

-- ---- a field

-- a number that four columns hold
abbrev pub Short : ℕ → Type 0
Short v = v < 10000

-- spaces before digits are passed over, and nothing else is
spaces : (k : ℕ) (ds : List ℕ) → 0 < length ds → All (λ b. (48 ≤ b) × (b ≤ 57)) ds → after_spaces (replicate k 32 ++ ds) ≡ ds
spaces zero [] h a = absurd (omega arith)
spaces zero (d ∷ ds) h a = rw (ne_eqb d 32 (λ e. let l = a.0.0 in omega arith))
spaces (suc k) ds h a = spaces k ds h a

module _ (v : ℕ) (h : Short v) where
  few : length (decimal v) ≤ 4
  few = decimal-bound 3 v h

  padded : field_text v ≡ replicate (4 - length (decimal v)) 32 ++ decimal v
  unfolding field_text
  padded = rw (le-leb (length (decimal v)) 4 few)

  field-length : length (field_text v) ≡ 4
  field-length =
      ap length padded ∙ length-append (replicate (4 - length (decimal v)) 32) (decimal v)
      ∙ omega (arith, few, length-replicate {A = ℕ} (4 - length (decimal v)) 32)

  field-value : field_value (field_text v) ≡ Number v
  unfolding field_value
  field-value =
      rw (
        field-length,
        padded,
        spaces (4 - length (decimal v)) (decimal v) (decimal-some v) (decimal-digits v),
        ne_eqb (length (decimal v)) 0 (λ e. let s = decimal-some v in omega arith),
        decimal-number v,
      )

-- no byte of a field ends a line
field-printed : (v : ℕ) → Short v → All (λ b. 32 ≤ b) (field_text v)
field-printed v h =
    rw (padded v h)
    (all_append (λ b. 32 ≤ b) (replicate (4 - length (decimal v)) 32) (decimal v) (blanks (4 - length (decimal v)))
    (all-imp (λ b. (48 ≤ b) × (b ≤ 57)) (λ b. 32 ≤ b) (λ b k. let l = k.0 in omega arith) (decimal v) (decimal-digits v)))
  where
    blanks : (k : ℕ) → All (λ b. 32 ≤ b) (replicate k 32)
    blanks zero = tt
    blanks (suc k) = (omega arith, blanks k)

-- ---- a row of fields

pub row-length : (fs : List ℕ) → All Short fs → length (flat_map field_text fs) ≡ length fs * 4
row-length [] a = refl
row-length (v ∷ fs) a =
    length-append (field_text v) (flat_map field_text fs) ∙ omega (arith, field-length v a.0, row-length fs a.1)

row_drop : (fs : List ℕ) → All Short fs → (i : ℕ) → drop (i * 4) (flat_map field_text fs) ≡ flat_map field_text (drop i fs)
row_drop fs a zero = refl
row_drop [] a (suc i) = drop-nil (suc i * 4)
row_drop (v ∷ fs) a (suc i) =
    let n : suc i * 4 ≡ length (field_text v) + i * 4 = omega (arith, field-length v a.0) in
    ap (λ (k : ℕ). drop k (field_text v ++ flat_map field_text fs)) n
    ∙ drop-append-add (field_text v) (flat_map field_text fs) (i * 4)
    ∙ row_drop fs a.1 i

module _ (fs : List ℕ) (a : All Short fs) where
  -- how many fields the reader counts
  pub row-fields : length (flat_map field_text fs) / 4 ≡ length fs
  row-fields = omega (arith, row-length fs a)

  field-at : (i : ℕ) → i < length fs → field_at (flat_map field_text fs) i ≡ field_text (get_or fs i 0)
  unfolding field_at
  field-at i h =
      rw (row-fields, lt-ltb i (length fs) h, row_drop fs a i, drop-cons fs i 0 h)
      (take_at (field_text (get_or fs i 0)) (flat_map field_text (drop (suc i) fs)) 4 (field-length (get_or fs i 0) (all-place Short 0 fs a i h)))

  value_in : (i : ℕ) → i < length fs → field_value (field_at (flat_map field_text fs) i) ≡ Number (get_or fs i 0)
  value_in i h = ap field_value (field-at i h) ∙ field-value (get_or fs i 0) (all-place Short 0 fs a i h)

  -- the number in each field, a mark column or not, and 0 past the last
  number_in : (i : ℕ) (mark : Bool) → field_number (field_value (field_at (flat_map field_text fs) i)) mark ≡ get_or fs i 0
  number_in i mark = go (dec_lt i (length fs))
    where
      go : Dec (i < length fs) → field_number (field_value (field_at (flat_map field_text fs) i)) mark ≡ get_or fs i 0
      go (yes h) = ap (λ (x : Field). field_number x mark) (value_in i h)
      go (no h) = unfold field_at field_value in rw (row-fields, le-ltb i (length fs) (omega arith)) (sym (get_or-eq_default fs 0 (omega arith)))

  pub row-value : (i : ℕ) → value_at (flat_map field_text fs) i ≡ get_or fs i 0
  unfolding value_at
  row-value i = number_in i false

  pub row-mark : (e : ℕ) → mark_at (flat_map field_text fs) e ≡ get_or fs (4 + e) 0
  unfolding mark_at
  row-mark e = number_in (4 + e) true

  pub row-form : 0 < length fs → form_refusal (flat_map field_text fs) ≡ 0
  unfolding form_refusal good_field
  row-form h =
      let l = row-length fs a in
      let m : length (flat_map field_text fs) % 4 ≡ 0 = omega (arith, l) in
      let good : list_all (good_field (flat_map field_text fs)) (range 0 (length fs)) ≡ true =
      T_true _ (range-every (good_field (flat_map field_text fs)) 0 (length fs) (λ i _ k. rw (value_in i (omega arith)) tt)) in
      rw (ne_eqb (length (flat_map field_text fs)) 0 (λ e. omega arith), eq-eqb (length (flat_map field_text fs) % 4) 0 m, row-fields, good)

  pub row-printed : All (λ b. 32 ≤ b) (flat_map field_text fs)
  row-printed = all-each (λ b. 32 ≤ b) field_text fs (all-imp Short (λ v. All (λ b. 32 ≤ b) (field_text v)) field-printed fs a)
