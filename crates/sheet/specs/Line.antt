-- What the reader's helpers answer, in the definitions' terms.
use Rattle.std.specs.Prelude.{ℕ, suc, ◌+◌, ◌*◌, ◌/◌, ◌%◌, ◌≡◌, Bool, cond, List, [], ◌∷◌, leb, eqb, length}
use Rattle.model.specs.Sheet.{value_at, form_refusal, mark_at, first_group, group_count}

-- how many bytes stand before the first byte 10
abbrev pub line_length : List ℕ → ℕ
line_length [] = 0
line_length (b ∷ bs) = cond (eqb b 10) 0 (suc (line_length bs))

abbrev pub good_mark : List ℕ → ℕ → Bool
good_mark l e = leb (mark_at l e) 2

-- the number that the last four bits of each byte stand for, a digit's and a space's, after digits that stand for v
abbrev pub plain_value : ℕ → List ℕ → ℕ
plain_value v [] = v
plain_value v (b ∷ bs) = plain_value (v * 10 + b % 16) bs

-- a group line of n marks, and a constraint line: of the right form, kind and number of fields
abbrev pub GroupLine : ℕ → List ℕ → Type 0
GroupLine n l = (form_refusal l ≡ 0) × (value_at l 0 ≡ 2) × (length l / 4 ≡ 4 + n)

abbrev pub ConstraintLine : List ℕ → Type 0
ConstraintLine l = (form_refusal l ≡ 0) × (value_at l 0 ≡ 3) × (length l / 4 ≡ first_group l + group_count l)
