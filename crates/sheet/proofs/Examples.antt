-- Sheets beside A that compute: those that differ from it only in mark columns, and those that do not. Assumes nothing.
use Prim.Native.Nat.{ℕ}
use Prim.Native.Char.{code}
use Prim.Native.String.{String, [] as no_text, ◌∷◌ as ◌before◌}
use mathlib.Core.Path.{◌≡◌, refl}
use mathlib.Core.Bool.{Bool, true, false}
use mathlib.Core.List.{List, [], ◌∷◌, map}
use Rattle.model.specs.Sheet.{field_at, number_of, field_value, value_at}
use Rattle.sheet.specs.Blanks.{same_but_blanks}

abbrev bytes : String → List ℕ
bytes no_text = []
bytes (c before s) = code c ∷ bytes s

-- A, some of its open marks blank
abbrev sheet_a : String
sheet_a = "   1   3   2   1\n   2   1   1   1       1   1\n   2   2   0   3   1   1   0\n   3   2   1   2\n"

-- all written, other marks blank, all blank; then another mark, a blank high, a blank group of a constraint, a line less, no last byte 10
abbrev sheets : List (String × Bool)
sheets =
    (sheet_a, true)
    ∷ ("   1   3   2   1\n   2   1   1   1   1   1   1\n   2   2   0   3   1   1   0\n   3   2   1   2\n", true)
    ∷ ("   1   3   2   1\n   2   1   1   1   1       1\n   2   2   0   3       1   0\n   3   2   1   2\n", true)
    ∷ ("   1   3   2   1\n   2   1   1   1            \n   2   2   0   3           0\n   3   2   1   2\n", true)
    ∷ ("   1   3   2   1\n   2   1   1   1       1   1\n   2   2   0   3   1   1    \n   3   2   1   2\n", false)
    ∷ ("   1   3   2   1\n   2   1   1           1   1\n   2   2   0   3   1   1   0\n   3   2   1   2\n", false)
    ∷ ("   1   3   2   1\n   2   1   1   1       1   1\n   2   2   0   3   1   1   0\n   3   2       2\n", false)
    ∷ ("   1   3   2   1\n   2   1   1   1       1   1\n   2   2   0   3   1   1   0\n", false)
    ∷ ("   1   3   2   1\n   2   1   1   1       1   1\n   2   2   0   3   1   1   0\n   3   2   1   2", false)
    ∷ []

all-sheets : map (λ s. same_but_blanks (bytes sheet_a) (bytes s.0)) sheets ≡ map (λ s. s.1) sheets
unfolding same_but_blanks field_at number_of field_value value_at
all-sheets = refl
