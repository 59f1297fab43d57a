-- Solver lines: "Lines of the SAT competition output, without byte 10."
use Rattle.std.specs.Prelude.{ℕ, ◌-◌, Bool, true, false, cond, not, ◌&&◌, ◌||◌, List, [], ◌∷◌, leb, ltb, eqb, length, get_or, set, drop}
use Rattle.std.specs.Prelude.{Option, None, Some}
use Rattle.model.specs.declared.Literal.{Literal}
use Rattle.model.specs.declared.Literal.TheVariants.{Pos, Neg}
use Rattle.model.specs.declared.Word.{Word}
use Rattle.model.specs.declared.Word.TheVariants.{Names, Closing, Malformed}
use Rattle.model.specs.declared.Reading.{Reading}
use Rattle.model.specs.declared.LineRead.{LineRead}
use Rattle.model.specs.Lists.{between, stop}
use Rattle.model.specs.Sheet.{on_first, number_of}

-- ---- the form: "`v` lines: `v`, then any number of times one space and a literal .. or a closing 0, after which nothing follows"

-- what stands before, between and after the spaces
abbrev pub words_of : List ℕ → List (List ℕ)
words_of [] = [] ∷ []
words_of (b ∷ bs) = cond (eqb b 32) ([] ∷ words_of bs) (on_first b (words_of bs))

-- "no leading zero, up to 9 digits": the variable that digits name
unfoldable pub variable_in : List ℕ → Option ℕ
variable_in ds = cond (leb (length ds) 9 && not (eqb (get_or ds 0 0) 48)) (number_of ds) None

abbrev pub as_literal : (ℕ → Literal) → Option ℕ → Word
as_literal sign None = Malformed
as_literal sign (Some v) = Names (sign v)

-- "minus sign optional"
unfoldable pub word_value : List ℕ → Word
word_value [] = Malformed
word_value (b ∷ bs) =
    cond (eqb b 45) (as_literal Neg (variable_in bs))
    (cond (eqb b 48 && eqb (length bs) 0) Closing (as_literal Pos (variable_in (b ∷ bs))))

-- the literals that a line names, and whether a closing 0 ends it
pub record Said : Type 0 where
  pub literals : List Literal
  pub closed : Bool

unfoldable pub nothing_said : Said
nothing_said = record { literals = []; closed = false }

abbrev pub with_literal : Literal → Option Said → Option Said
with_literal l None = None
with_literal l (Some s) = Some (record { literals = l ∷ s.literals; closed = s.closed })

-- a word in front of others, which say `rest`
abbrev pub say_word : Word → List (List ℕ) → Option Said → Option Said
say_word Malformed ws rest = None
say_word Closing [] rest = Some (record { literals = []; closed = true })
say_word Closing (w ∷ ws) rest = None
say_word (Names l) ws rest = with_literal l rest

abbrev pub say_words : List (List ℕ) → Option Said
say_words [] = Some nothing_said
say_words (w ∷ ws) = say_word (word_value w) ws (say_words ws)

-- the words of a line whose first byte is `v`: none where the form is bad
abbrev pub after_v : List (List ℕ) → Option Said
after_v [] = None
after_v (w ∷ ws) = cond (eqb (length w) 1) (say_words ws) None

unfoldable pub form_of : List ℕ → Option Said
form_of line = after_v (words_of line)

-- ---- values: "The lent marks, one byte per variable, hold 1 true, 2 false, any other byte unsaid."

unfoldable pub is_said : ℕ → Bool
is_said b = between 1 2 b

abbrev pub variable : Literal → ℕ
variable (Pos v) = v
variable (Neg v) = v

abbrev pub value_for : Literal → ℕ
value_for (Pos v) = 1
value_for (Neg v) = 2

unfoldable pub with_value : Literal → List ℕ → List ℕ
with_value l values = set values (variable l - 1) (value_for l)

-- "When an answer is an enum, a definition gives this paper's number and values for each of its cases": of a word, refusal 10,
-- the variable that it names, the value that it says (1 true, 2 false; both 0 where it is no literal), and whether it is the closing 0
abbrev pub word_refusal : Word → ℕ
word_refusal (Names l) = 0
word_refusal Closing = 0
word_refusal Malformed = 10

abbrev pub word_variable : Word → ℕ
word_variable (Names l) = variable l
word_variable Closing = 0
word_variable Malformed = 0

abbrev pub word_says : Word → ℕ
word_says (Names l) = value_for l
word_says Closing = 0
word_says Malformed = 0

abbrev pub word_closes : Word → Bool
word_closes (Names l) = false
word_closes Closing = true
word_closes Malformed = false

-- the same by the bytes of a word: its sign, its variable and value, and whether it is `0`
unfoldable pub has_minus : List ℕ → Bool
has_minus w = eqb (get_or w 0 0) 45

unfoldable pub variable_said : List ℕ → Option ℕ
variable_said w = variable_in (cond (has_minus w) (drop 1 w) w)

abbrev pub signed : Bool → Option ℕ → ℕ
signed minus None = 0
signed minus (Some v) = cond minus 2 1

unfoldable pub is_zero : List ℕ → Bool
is_zero w = eqb (get_or w 0 0) 48 && eqb (length w) 1

-- "literals go left to right, 11 before 12 at each, and the first offence ends the reading"
abbrev pub literals_refusal : List Literal → List ℕ → ℕ
literals_refusal [] values = 0
literals_refusal (l ∷ ls) values =
    stop (ltb (length values) (variable l)) 11
    (stop (is_said (get_or values (variable l - 1) 0)) 12 (literals_refusal ls (with_value l values)))

abbrev pub with_values : List Literal → List ℕ → List ℕ
with_values [] values = values
with_values (l ∷ ls) values = with_values ls (with_value l values)

-- ---- a call: "solver line: first byte (10), 25, form (10), 11, 12"

-- the refusal of a line of the form that it has
abbrev pub said_refusal : Option Said → List ℕ → ℕ
said_refusal None values = 10
said_refusal (Some s) values = literals_refusal s.literals values

-- "First byte `c` or `s`: passed over."
unfoldable pub is_passed_over : List ℕ → Bool
is_passed_over line = eqb (get_or line 0 0) 99 || eqb (get_or line 0 0) 115

unfoldable pub call_refusal : Reading → List ℕ → List ℕ → ℕ
call_refusal r line values =
    stop (is_passed_over line) 0
    (stop (not (eqb (get_or line 0 0) 118)) 10
    (stop r.closed 25 (said_refusal (form_of line) values)))

-- whether the call takes the line's literals: a `v` line that is not refused
unfoldable pub is_taken : Reading → List ℕ → List ℕ → Bool
is_taken r line values = not (is_passed_over line) && eqb (call_refusal r line values) 0

abbrev pub said_by : Option Said → Said
said_by None = nothing_said
said_by (Some s) = s

-- "a reading state as they got it"
unfoldable pub line_read : Reading → List ℕ → List ℕ → LineRead
line_read r line values = record {
  refusal = call_refusal r line values;
  reading = cond (is_taken r line values) (record { closed = (said_by (form_of line)).closed }) r;
}

-- the values after the call: a refused line changes none
unfoldable pub values_after : Reading → List ℕ → List ℕ → List ℕ
values_after r line values = cond (is_taken r line values) (with_values (said_by (form_of line)).literals values) values
