-- Groups, values and assignments that compute: `1: 3 7 9`, `v 1 -2 4` of four variables, and `v 1 -2 3 0`. Assumes nothing.
use mathlib.Core.Path.{◌≡◌, refl}
use mathlib.Core.List.{[], ◌∷◌, map}
use lib.ListN.{length, replicate}
use Rattle.model.specs.Sheet.{lines_of}
use Rattle.model.specs.Words.{bit, has}
use Rattle.model.specs.Text.{digits, decimal}
use Rattle.answer.specs.Groups.{entrant_text, entrants_text, group_text, groups_text}
use Rattle.answer.specs.Values.{value_text, said_text, values_text}
use Rattle.answer.specs.Assignment.{word_text, column_after, assignment_text}

-- entrants 3, 7 and 9 are the bits 2, 6 and 8
one-group : groups_text (324 ∷ []) 1 ≡ (49 ∷ 58 ∷ 32 ∷ 51 ∷ 32 ∷ 55 ∷ 32 ∷ 57 ∷ 10 ∷ [])
unfolding groups_text group_text entrants_text entrant_text has bit decimal digits
one-group = refl

four-values : values_text (1 ∷ 2 ∷ 0 ∷ 1 ∷ []) ≡ (118 ∷ 32 ∷ 49 ∷ 32 ∷ 45 ∷ 50 ∷ 32 ∷ 52 ∷ 10 ∷ [])
unfolding values_text said_text value_text decimal digits
four-values = refl

an_assignment : assignment_text (1 ∷ 2 ∷ 1 ∷ []) ≡ (118 ∷ 32 ∷ 49 ∷ 32 ∷ 45 ∷ 50 ∷ 32 ∷ 51 ∷ 32 ∷ 48 ∷ 10 ∷ [])
unfolding assignment_text word_text column_after value_text decimal digits
an_assignment = refl

-- `v -1 -2 3 .. 28` has 78 columns, and `v 29 0` comes on the next line
two-lines : map length (lines_of (assignment_text (2 ∷ 2 ∷ replicate 27 1))) ≡ (78 ∷ 6 ∷ [])
unfolding assignment_text word_text column_after value_text decimal digits
two-lines = refl
