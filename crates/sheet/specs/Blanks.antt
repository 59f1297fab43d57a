-- Sheets that differ only in mark columns, blank in one and a written 1 in the other: request 3 of document 02, on bytes.
use Rattle.std.specs.Prelude.{ℕ, ◌/◌, Bool, ◌&&◌, ◌||◌, List, [], ◌∷◌, leb, eqb, length}
use Rattle.std.specs.List.{list_all}
use Rattle.model.specs.Lists.{pairwise, range}
use Rattle.model.specs.Sheet.{lines_of, field_at, value_at}

abbrev pub same_bytes : List ℕ → List ℕ → Bool
same_bytes a b = pairwise eqb a b

-- "blank in one and a written 1 in the other", in this order
abbrev pub blank_and_one : List ℕ → List ℕ → Bool
blank_and_one a b = same_bytes a (32 ∷ 32 ∷ 32 ∷ 32 ∷ []) && same_bytes b (32 ∷ 32 ∷ 32 ∷ 49 ∷ [])

-- field i of two lines: the same bytes or, from the fifth on, blank in one and a written 1 in the other, either way round
abbrev pub same_field : List ℕ → List ℕ → ℕ → Bool
same_field k l i =
    same_bytes (field_at k i) (field_at l i)
    || (leb 4 i && (blank_and_one (field_at k i) (field_at l i) || blank_and_one (field_at l i) (field_at k i)))

-- the same bytes; or the same length and a first field 2 in both, and field by field the same or blank in one and 1 in the other
abbrev pub same_line : List ℕ → List ℕ → Bool
same_line k l =
    same_bytes k l
    || (eqb (length k) (length l) && eqb (value_at k 0) 2 && eqb (value_at l 0) 2 && list_all (same_field k l) (range 0 (length k / 4)))

-- "Two sheets that differ only in mark columns": as long as each other, as many lines, line by line the same
unfoldable pub same_but_blanks : List ℕ → List ℕ → Bool
same_but_blanks a b = eqb (length a) (length b) && pairwise same_line (lines_of a) (lines_of b)
