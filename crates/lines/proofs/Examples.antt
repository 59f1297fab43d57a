-- Two pieces that cut a line in the middle, and a line too long for a space of six bytes. Assumes nothing.
use Prim.Native.Nat.{ℕ}
use mathlib.Core.Path.{◌≡◌, refl}
use mathlib.Core.List.{List, [], ◌∷◌}
use Rattle.model.specs.Sheet.{number_of}
use Rattle.model.specs.Assignment.{variable_in, word_value, nothing_said, form_of, is_said, with_value, is_passed_over, call_refusal, is_taken, line_read, values_after}
use Rattle.model.specs.Demand.{fresh_reading}
use Rattle.lines.specs.Cut.{Cutting, cutting, next_number, too_long, line_end, values_at_end, end_line, keep_byte, add_byte, cut_byte, at_start, cut_end}
use Rattle.lines.specs.Lines.{fresh_cut, cut_pieces}

-- `v 1`, a newline, `v `; then `-2`, a newline, `v 3 4 5`, a newline, `v 0`
pieces : List (List ℕ)
pieces =
    (118 ∷ 32 ∷ 49 ∷ 10 ∷ 118 ∷ 32 ∷ [])
    ∷ (45 ∷ 50 ∷ 10 ∷ 118 ∷ 32 ∷ 51 ∷ 32 ∷ 52 ∷ 32 ∷ 53 ∷ 10 ∷ 118 ∷ 32 ∷ 48 ∷ [])
    ∷ []

after : Cutting
after = cut_end (cut_pieces pieces (cutting fresh_cut (0 ∷ 0 ∷ 0 ∷ 0 ∷ 0 ∷ 0 ∷ []) (0 ∷ 0 ∷ 0 ∷ [])))

values-said : after.values ≡ (1 ∷ 2 ∷ 0 ∷ [])
unfolding after pieces fresh_cut fresh_reading cut_end at_start cut_byte add_byte keep_byte end_line values_at_end line_end too_long next_number line_read values_after is_taken call_refusal is_passed_over form_of word_value nothing_said variable_in number_of is_said with_value
values-said = refl

next-line : after.cut.number ≡ 5
unfolding after pieces fresh_cut fresh_reading cut_end at_start cut_byte add_byte keep_byte end_line values_at_end line_end too_long next_number line_read values_after is_taken call_refusal is_passed_over form_of word_value nothing_said variable_in number_of is_said with_value
next-line = refl
