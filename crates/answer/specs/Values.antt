-- The text of the values that a solver says: `v 1 -2 3`, each variable that is said.
use Rattle.std.specs.Prelude.{ℕ, ◌+◌, cond, not, List, [], ◌∷◌, ◌++◌, ltb, eqb, length, get_or, count_by}
use Rattle.model.specs.declared.Written.{Written}
use Rattle.model.specs.declared.Written.TheVariants.{Bytes, Refused}
use Rattle.std.specs.List.{flat_map}
use Rattle.model.specs.Lists.{range, stop}
use Rattle.model.specs.Limits.{limits}
use Rattle.model.specs.Assignment.{is_said}
use Rattle.model.specs.Text.{decimal}
use Rattle.text.specs.Put.{placed}

-- variable v after a space, with a minus sign where it is false; nothing where it is unsaid
unfoldable pub value_text : ℕ → ℕ → List ℕ
value_text x v = cond (eqb x 1) ((32 ∷ []) ++ decimal v) (cond (eqb x 2) ((32 ∷ 45 ∷ []) ++ decimal v) [])

abbrev pub value_at : List ℕ → ℕ → List ℕ
value_at values i = value_text (get_or values i 0) (i + 1)

unfoldable pub said_text : List ℕ → List ℕ
said_text values = flat_map (value_at values) (range 0 (length values))

unfoldable pub values_text : List ℕ → List ℕ
values_text values = (118 ∷ []) ++ said_text values ++ (10 ∷ [])

-- how many variables no line said
unfoldable pub unsaid_count : List ℕ → ℕ
unsaid_count values = count_by (λ x. not (is_said x)) values

-- ---- a text of values in a buffer: this one, or that of an assignment

-- 24 where the buffer is shorter than the text
abbrev pub fitted : List ℕ → ℕ → Written
fitted text room = cond (ltb room (length text)) (Refused 24) (Bytes (length text))

-- 26 of more values than a listing has variables; 24 where the buffer is shorter than the text
unfoldable pub written_text : List ℕ → List ℕ → ℕ → Written
written_text values text room =
    cond (ltb limits.variables (length values)) (Refused 26)
    (cond (ltb room (length text)) (Refused 24) (Bytes (length text)))

-- its number and its value
unfoldable pub text_refusal : List ℕ → List ℕ → ℕ → ℕ
text_refusal values text room = stop (ltb limits.variables (length values)) 26 (stop (ltb room (length text)) 24 0)

unfoldable pub text_length : List ℕ → List ℕ → ℕ → ℕ
text_length values text room = cond (eqb (text_refusal values text room) 0) (length text) 0

unfoldable pub text_buffer : List ℕ → List ℕ → List ℕ → List ℕ
text_buffer values text buf = cond (ltb limits.variables (length values)) buf (placed text 0 buf)
