-- The text of a draw's groups: `1: 3 7 9`, a line for each group, with its number and its entrants in rising order.
use Rattle.std.specs.Prelude.{ℕ, ◌+◌, min, cond, List, [], ◌∷◌, ◌++◌, ltb, eqb, length, get_or}
use Rattle.model.specs.declared.Written.{Written}
use Rattle.model.specs.declared.Written.TheVariants.{Bytes, Refused}
use Rattle.std.specs.List.{flat_map}
use Rattle.model.specs.Lists.{range, stop}
use Rattle.model.specs.Words.{has}
use Rattle.model.specs.Limits.{limits}
use Rattle.model.specs.Text.{decimal}

-- entrant e + 1 after a space, where the group has it
unfoldable pub entrant_text : ℕ → ℕ → List ℕ
entrant_text w e = cond (has w e) ((32 ∷ []) ++ decimal (e + 1)) []

unfoldable pub entrants_text : ℕ → List ℕ
entrants_text w = flat_map (entrant_text w) (range 0 limits.word)

-- the number, a colon, the entrants, byte 10
unfoldable pub group_text : ℕ → ℕ → List ℕ
group_text number w = decimal number ++ (58 ∷ []) ++ entrants_text w ++ (10 ∷ [])

abbrev pub group_at : List ℕ → ℕ → List ℕ
group_at words i = group_text (i + 1) (get_or words i 0)

-- the first s groups, or all where there are no more
unfoldable pub groups_text : List ℕ → ℕ → List ℕ
groups_text words s = flat_map (group_at words) (range 0 (min s limits.groups))

-- 24 where the buffer is shorter than the text
unfoldable pub written_groups : List ℕ → ℕ → ℕ → Written
written_groups words s room =
    cond (ltb room (length (groups_text words s))) (Refused 24) (Bytes (length (groups_text words s)))

-- its number and its value
unfoldable pub groups_refusal : List ℕ → ℕ → ℕ → ℕ
groups_refusal words s room = stop (ltb room (length (groups_text words s))) 24 0

unfoldable pub groups_length : List ℕ → ℕ → ℕ → ℕ
groups_length words s room = cond (eqb (groups_refusal words s room) 0) (length (groups_text words s)) 0
