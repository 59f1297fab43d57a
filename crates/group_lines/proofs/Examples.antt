-- Texts of two groups of nine entrants that compute: a draw, and each fault with its line and the number that it tells. Assumes nothing.
use Prim.Native.Nat.{ℕ}
use Prim.Native.Char.{code}
use Prim.Native.String.{String, [] as no_text, ◌∷◌ as ◌before◌}
use mathlib.Core.Path.{◌≡◌, refl}
use mathlib.Core.List.{List, [], ◌∷◌, map}
use lib.ListN.{take}
use Rattle.model.specs.Words.{bit, has}
use Rattle.model.specs.Sheet.{number_of}
use Rattle.model.specs.Assignment.{variable_in}
use Rattle.std.specs.Prelude.{Result, Ok, Err}
use Rattle.group_lines.specs.declared.WrongLine.{WrongLine}
use Rattle.group_lines.specs.Lines.{fault_number, fault_about, number_in, group_in, of_group, of_entrant, line_read, groups_read}

abbrev bytes : String → List ℕ
bytes no_text = []
bytes (c before s) = code c ∷ bytes s

abbrev read : String → Result (List ℕ) WrongLine
read s = groups_read (bytes s) 9 2

-- what is wrong, its line, and the group or entrant that it is about; or 0, and the first two groups
abbrev said : Result (List ℕ) WrongLine → List ℕ
said (Ok groups) = 0 ∷ take 2 groups
said (Err w) = fault_number w.fault ∷ w.line ∷ fault_about w.fault ∷ []

-- entrants 3, 7 and 9 are the bits 2, 6 and 8; the last line may lack its newline
abbrev texts : List (String × List ℕ)
texts =
    ("1: 3 7 9\n2:\n", 0 ∷ 324 ∷ 0 ∷ [])
    ∷ ("1: 3 7 9\n2: 1", 0 ∷ 324 ∷ 1 ∷ [])
    ∷ ("1 3\n", 1 ∷ 1 ∷ 0 ∷ [])
    ∷ ("1: 3\n2:  4\n", 1 ∷ 2 ∷ 0 ∷ [])
    ∷ ("17: 3\n", 2 ∷ 1 ∷ 17 ∷ [])
    ∷ ("1: 3\n1: 4\n", 3 ∷ 2 ∷ 1 ∷ [])
    ∷ ("2: 3\n", 4 ∷ 1 ∷ 1 ∷ [])
    ∷ ("1: 3\n", 4 ∷ 2 ∷ 2 ∷ [])
    ∷ ("1: 3 10 3\n", 5 ∷ 1 ∷ 10 ∷ [])
    ∷ ("1: 3\n2: 4 7 4\n", 6 ∷ 2 ∷ 4 ∷ [])
    ∷ []

all-texts : map (λ t. said (read t.0)) texts ≡ map (λ t. t.1) texts
unfolding groups_read line_read of_group of_entrant group_in number_in variable_in number_of has bit
all-texts = refl
