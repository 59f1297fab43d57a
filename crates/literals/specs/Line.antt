-- What the line reader's helpers answer, in the definitions' terms.
use Rattle.std.specs.Prelude.{◌≡◌, ℕ, zero, suc, ◌-◌, ◌/◌, ◌%◌, ◌^◌, ◌<◌, Bool, cond, List, [], ◌∷◌, ◌++◌, ltb, eqb, length, get_or, set}
use Rattle.std.specs.Prelude.{Result, Ok, Err}
use Rattle.std.specs.Int.Bits.{bit_or}
use Rattle.model.specs.declared.Literal.{Literal}
use Rattle.model.specs.declared.Word.{Word}
use Rattle.model.specs.declared.Word.TheVariants.{Names, Closing, Malformed}
use Rattle.std.specs.List.{list_any}
use Rattle.model.specs.Lists.{stop}
use Rattle.model.specs.Words.{has}
use Rattle.model.specs.Assignment.{word_value, is_said, variable, with_value, with_values}
use Rattle.literals.specs.declared.Refusal.{Refusal}
use Rattle.literals.specs.declared.Refusal.TheVariants.{NoLiteral, Above, Taken}

-- ---- the words of a line

-- the literals of words, up to the first that is none
abbrev pub if_names : Word → List Literal → List Literal
if_names (Names l) ls = l ∷ ls
if_names Closing ls = []
if_names Malformed ls = []

abbrev pub named : List (List ℕ) → List Literal
named [] = []
named (w ∷ ws) = if_names (word_value w) (named ws)

-- left to right: 10 at a word that is no literal, and at a literal 11, then 12
abbrev pub word_then : Word → List ℕ → (List ℕ → ℕ) → ℕ
word_then (Names l) values rest =
    stop (ltb (length values) (variable l)) 11
    (stop (is_said (get_or values (variable l - 1) 0)) 12 (rest (with_value l values)))
word_then Closing values rest = 10
word_then Malformed values rest = 10

abbrev pub words_refusal : List (List ℕ) → List ℕ → ℕ
words_refusal [] values = 0
words_refusal (w ∷ ws) values = word_then (word_value w) values (words_refusal ws)

-- some literal names variable v
abbrev pub names? : ℕ → List Literal → Bool
names? v ls = list_any (λ k. eqb (variable k) v) ls

-- 11 and 12 of literals, after those that the line has named so far
abbrev pub judged : List Literal → List Literal → List ℕ → ℕ
judged seen [] values = 0
judged seen (l ∷ ls) values =
    stop (ltb (length values) (variable l)) 11
    (stop (is_said (get_or values (variable l - 1) 0)) 12
    (stop (names? (variable l) seen) 12 (judged (seen ++ (l ∷ [])) ls values)))

-- ---- the place of a variable: "The lent marks, one byte per variable"

unfoldable pub place_of : ℕ → List ℕ → Result ℕ Refusal
place_of v values =
    cond (ltb (length values) v) (Err Above)
    (cond (is_said (get_or values (v - 1) 0)) (Err Taken) (Ok (v - 1)))

-- where the line has named literals before
unfoldable pub new_place : List Literal → ℕ → List ℕ → Result ℕ Refusal
new_place seen v values =
    cond (ltb (length values) v) (Err Above)
    (cond (is_said (get_or values (v - 1) 0)) (Err Taken)
    (cond (names? v seen) (Err Taken) (Ok (v - 1))))

-- "a definition gives this paper's number and values for each of its cases": of a refusal 10, 11 and 12, and 0 where there is none
abbrev pub refusal_number : Refusal → ℕ
refusal_number NoLiteral = 10
refusal_number Above = 11
refusal_number Taken = 12

abbrev pub refusal_of : {A : Type 0} → Result A Refusal → ℕ
refusal_of (Ok x) = 0
refusal_of (Err r) = refusal_number r

-- "11 variable above the marks' length. 12 variable said already, earlier in the line included."
unfoldable pub literal_refusal : ℕ → List Literal → List ℕ → ℕ
literal_refusal v seen values =
    stop (ltb (length values) v) 11
    (stop (is_said (get_or values (v - 1) 0)) 12
    (stop (names? v seen) 12 0))

-- ---- the flags: bit i % 64 of word i / 64 is set exactly when variable i + 1 was named

pub record Noted (flags : List ℕ) (seen : List Literal) : Type 0 where
  pub size : length flags ≡ 1024
  pub at : (i : ℕ) → i < 65536 → has (get_or flags (i / 64) 0) (i % 64) ≡ names? (suc i) seen

-- the words with bit i set
unfoldable pub with_flag : ℕ → List ℕ → List ℕ
with_flag i flags = set flags (i / 64) (bit_or (get_or flags (i / 64) 0) (2 ^ (i % 64)))

unfoldable pub noted_with : ℕ → List ℕ → List ℕ
noted_with v flags = cond (ltb (v - 1) 65536) (with_flag (v - 1) flags) flags

-- ---- a short line: the places that it writes, and the bytes that stood there

-- the first n places lie below a length
pub record PlacesBelow (places : List ℕ) (n size : ℕ) : Type 0 where
  pub at : (i : ℕ) → i < n → get_or places i 0 < size

-- the first n bytes back at their places, the last one first
abbrev pub put_back : ℕ → List ℕ → List ℕ → List ℕ → List ℕ
put_back zero places bytes values = values
put_back (suc i) places bytes values = put_back i places bytes (set values (get_or places i 0) (get_or bytes i 0))

-- the values after words whose literals are written unless one is refused
unfoldable pub taken_by : List (List ℕ) → List ℕ → List ℕ
taken_by ws values = cond (eqb (words_refusal ws values) 0) (with_values (named ws) values) values
