-- The groups of a draw from text: a line for each group in order, `1: 3 7 9`, its number, a colon, and each entrant after one space.
use Rattle.std.specs.Prelude.{ℕ, ◌+◌, ◌-◌, ◌^◌, min, cond, List, [], ◌∷◌, ltb, eqb, length, get_or, take, set, replicate}
use Rattle.std.specs.Int.Bits.{bit_or}
use Rattle.model.specs.Words.{has}
use Rattle.model.specs.Limits.{limits}
use Rattle.model.specs.Sheet.{lines_of, or_zero}
use Rattle.model.specs.Assignment.{words_of, variable_in}
use Rattle.std.specs.Prelude.{Result, Ok, Err}
use Rattle.group_lines.specs.declared.Fault.{Fault}
use Rattle.group_lines.specs.declared.Fault.TheVariants.{BadForm, NoSuchGroup, GroupTwice, GroupMissing, Outside, EntrantTwice}
use Rattle.group_lines.specs.declared.WrongLine.{WrongLine}

-- ---- what can be wrong: its number, and the group or entrant that it is about

abbrev pub fault_number : Fault → ℕ
fault_number BadForm = 1
fault_number (NoSuchGroup g) = 2
fault_number (GroupTwice g) = 3
fault_number (GroupMissing g) = 4
fault_number (Outside e) = 5
fault_number (EntrantTwice e) = 6

abbrev pub fault_about : Fault → ℕ
fault_about BadForm = 0
fault_about (NoSuchGroup g) = g
fault_about (GroupTwice g) = g
fault_about (GroupMissing g) = g
fault_about (Outside e) = e
fault_about (EntrantTwice e) = e

-- ---- words

-- the number that a word is, without leading zero and of up to 9 digits; 0 where it is none
unfoldable pub number_in : List ℕ → ℕ
number_in w = or_zero (variable_in w)

-- the same of a word that ends in a colon
unfoldable pub group_in : List ℕ → ℕ
group_in w = cond (eqb (get_or w (length w - 1) 0) 58) (number_in (take (length w - 1) w)) 0

-- ---- a line, word by word: the first offence ends the reading

-- the line of group g where `next` is due, with what its entrants give
unfoldable pub of_group : ℕ → ℕ → ℕ → Result ℕ Fault → Result ℕ Fault
of_group s next g entrants =
    cond (eqb g 0) (Err BadForm)
    (cond (ltb s g) (Err (NoSuchGroup g))
    (cond (ltb g next) (Err (GroupTwice g))
    (cond (ltb next g) (Err (GroupMissing next)) entrants)))

-- entrant e after those of a group, with what the next ones give
unfoldable pub of_entrant : ℕ → ℕ → ℕ → Result ℕ Fault → Result ℕ Fault
of_entrant n group e others =
    cond (eqb e 0) (Err BadForm)
    (cond (ltb n e) (Err (Outside e))
    (cond (has group (e - 1)) (Err (EntrantTwice e)) others))

abbrev pub entrants_line : ℕ → ℕ → List (List ℕ) → Result ℕ Fault
entrants_line n group [] = Ok group
entrants_line n group (w ∷ ws) = of_entrant n group (number_in w) (entrants_line n (bit_or group (2 ^ (number_in w - 1))) ws)

abbrev pub words_line : ℕ → ℕ → ℕ → List (List ℕ) → Result ℕ Fault
words_line n s next [] = Err BadForm
words_line n s next (w ∷ ws) = of_group s next (group_in w) (entrants_line n 0 ws)

unfoldable pub line_read : ℕ → ℕ → ℕ → List ℕ → Result ℕ Fault
line_read n s next l = words_line n s next (words_of l)

-- ---- line by line; "(numbered one past the end) one missing"

abbrev pub wrong : Fault → ℕ → Result (List ℕ) WrongLine
wrong fault line = Err (record { fault = fault; line = line })

-- what follows a line, by what it gives
abbrev pub after : {A : Type 0} → Result ℕ Fault → (ℕ → A) → (Fault → A) → A
after (Ok word) goes stops = goes word
after (Err fault) goes stops = stops fault

-- after `done` lines, which gave the groups
abbrev pub groups_from : ℕ → ℕ → List (List ℕ) → ℕ → List ℕ → Result (List ℕ) WrongLine
groups_from n s [] done groups = cond (ltb done s) (wrong (GroupMissing (done + 1)) (done + 1)) (Ok groups)
groups_from n s (l ∷ ls) done groups =
    after (line_read n s (done + 1) l) (λ word. groups_from n s ls (done + 1) (set groups done word)) (λ fault. wrong fault (done + 1))

-- of n entrants and s groups: an n above 64 is 64, since no set has more, and an s above 256 is 256
unfoldable pub groups_read : List ℕ → ℕ → ℕ → Result (List ℕ) WrongLine
groups_read text n s = groups_from (min n limits.word) (min s limits.groups) (lines_of text) 0 (replicate 256 0)
