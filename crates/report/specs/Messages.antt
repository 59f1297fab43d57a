-- What the programs say: every message, as the bytes that they print.
use Rattle.std.specs.Prelude.{ℕ, ◌≤◌, ◌≡◌, Bool, cond, List, [], ◌∷◌, ◌++◌, eqb, length, take, drop, replicate}
use Prim.Native.Char.{code}
use Prim.Native.String.{String, [] as no_text, ◌∷◌ as ◌before◌}
use Rattle.model.specs.Text.{decimal}
use Rattle.text.specs.Put.{placed, place_after}
use Rattle.report.specs.declared.Message.{Message}
use Rattle.report.specs.declared.Tried.{Tried}
use Rattle.report.specs.declared.Notice.{Notice}
use Rattle.report.specs.declared.Notice.TheVariants.{OutputNotWritten, ListingNotWritten, SheetNotWritten, GroupsTooLong, Sheet, FirstSheet, SecondSheet, AnswerUsage}

-- the bytes of a text in ASCII
abbrev pub bytes : String → List ℕ
bytes no_text = []
bytes (c before s) = code c ∷ bytes s

-- ---- refusals

abbrev pub meanings : List (ℕ × String)
meanings =
    (1, "the sheet has more than 57,873 bytes\n")
    ∷ (2, "the sheet is empty, or its last line does not end in a newline\n")
    ∷ (3, "the line is empty, or its length is no multiple of four columns\n")
    ∷ (4, "a field is not a number set to the right of its four columns, without needless zeros; only a mark may be left blank\n")
    ∷ (5, "another kind of line belongs here: one head (1), then the groups (2), then the constraints (3)\n")
    ∷ (6, "the number of fields is wrong, or the code is not 1 to 7, or its count is not 2 to 16\n")
    ∷ (7, "a number is out of its range\n")
    ∷ (8, "the group's number is not the next one\n")
    ∷ (9, "a group stands twice in the line\n")
    ∷ (10, "the line is not one of the solver's output form\n")
    ∷ (11, "the line names a variable that the listing does not have\n")
    ∷ (12, "a variable is said twice\n")
    ∷ (20, "the model is out of a sheet's ranges\n")
    ∷ (21, "no draw: the groups' limits and constraints contradict each other\n")
    ∷ (22, "the table is not settled\n")
    ∷ (23, "the listing has no such block\n")
    ∷ (24, "the buffer is shorter than the block\n")
    ∷ (25, "a value line comes after the closing 0\n")
    ∷ (26, "the number of values is not the number of variables\n")
    ∷ (27, "the solver's answer is not complete: no closing 0, or a variable is not said\n")
    ∷ (28, "the solver's answer breaks a clause\n")
    ∷ (29, "a constraint has a clause without literals\n")
    ∷ (30, "the groups are not a draw of the sheet\n")
    ∷ (31, "the sheets do not have the same number of entrants and of groups\n")
    ∷ (32, "one sheet bars an entrant whom the other fixes, or the low of one exceeds the high of the other\n")
    ∷ (33, "the sheets have more than 256 constraint lines in all\n")
    ∷ []

-- the text that stands at a number; nothing where none does
abbrev pub text_at : List (ℕ × String) → ℕ → List ℕ
text_at [] k = []
text_at (e ∷ es) k = cond (eqb k e.0) (bytes e.1) (text_at es k)

unfoldable pub meaning_text : ℕ → List ℕ
meaning_text refusal = text_at meanings refusal

unfoldable pub refused_text : ℕ → List ℕ
refused_text refusal = bytes "refused " ++ decimal refusal ++ bytes "\n" ++ meaning_text refusal

unfoldable pub refused_at_text : ℕ → ℕ → List ℕ
refused_at_text refusal line = bytes "refused " ++ decimal refusal ++ bytes " at line " ++ decimal line ++ bytes "\n" ++ meaning_text refusal

-- of a solver's line; 24 is a line that is too long
unfoldable pub refused_line_text : ℕ → ℕ → List ℕ
refused_line_text line refusal =
    cond (eqb refusal 24)
    (bytes "line " ++ decimal line ++ bytes ": too long, not read\n")
    (bytes "line " ++ decimal line ++ bytes ": refused " ++ decimal refusal ++ bytes ": " ++ meaning_text refusal)

-- 32, of the group in which two sheets clash: by an entrant, or, where that is 0, by their limits alone
unfoldable pub clash_text : ℕ → ℕ → List ℕ
clash_text group entrant =
    cond (eqb entrant 0)
    (bytes "refused 32 at group " ++ decimal group ++ bytes "\nthe low of one sheet exceeds the high of the other\n")
    (bytes "refused 32 at group " ++ decimal group ++ bytes ", entrant " ++ decimal entrant ++ bytes "\none sheet bars the entrant, the other fixes it\n")

-- ---- numbers

unfoldable pub number_text : ℕ → List ℕ
number_text k = decimal k ++ bytes "\n"

unfoldable pub counts_text : ℕ → ℕ → ℕ → List ℕ
counts_text n s c = decimal n ++ bytes " entrants, " ++ decimal s ++ bytes " groups, " ++ decimal c ++ bytes " constraints\n"

unfoldable pub passes_text : ℕ → List ℕ
passes_text k = bytes "passes " ++ decimal k ++ bytes "\n"

-- ---- of an answer: whether it is closed, and how many variables no line said

unfoldable pub closed_text : Bool → List ℕ
closed_text closed = cond closed (bytes "closed\n") (bytes "not closed\n")

unfoldable pub unsaid_text : ℕ → List ℕ
unsaid_text k = cond (eqb k 0) [] (bytes "unsaid " ++ decimal k ++ bytes "\n")

unfoldable pub ending_text : Bool → ℕ → List ℕ
ending_text closed k = closed_text closed ++ unsaid_text k

-- ---- of a block: its length, and what a buffer of that length and one a byte shorter gave

unfoldable pub tried_text : Tried → List ℕ
tried_text t =
    bytes "; in " ++ decimal t.room ++ bytes " bytes: "
    ++ cond (eqb t.refusal 0) (decimal t.length) (bytes "refused " ++ decimal t.refusal)

-- an empty block has no shorter buffer
unfoldable pub block_line : ℕ → ℕ → Tried → Tried → List ℕ
block_line b k exact short =
    bytes "block " ++ decimal b ++ bytes ": " ++ decimal k ++ bytes " bytes"
    ++ tried_text exact ++ cond (eqb k 0) [] (tried_text short) ++ bytes "\n"

unfoldable pub changed_text : ℕ → List ℕ
changed_text b = bytes "block " ++ decimal b ++ bytes ": a byte past the text changed\n"

-- ---- of a certificate: why it does not certify, and in which of its lines; line 0 is before the first

abbrev pub reasons : List (ℕ × String)
reasons =
    (1, "there is no room for another clause")
    ∷ (2, "a clause has a larger number than there is room for")
    ∷ (3, "the listing has no such variable")
    ∷ (4, "no clause is stored under that number")
    ∷ (5, "a hint says nothing: more than one of its literals is open")
    ∷ (6, "the hints do not show the clause")
    ∷ (7, "it has too many lines")
    ∷ (8, "a byte stands where none of the format does")
    ∷ (9, "a number is above 400,000,000")
    ∷ (10, "a hint has a minus sign (RAT), which is not taken")
    ∷ (11, "there is no room for a block of the listing")
    ∷ (12, "it ends before the empty clause")
    ∷ []

unfoldable pub reason_text : ℕ → List ℕ
reason_text reason = text_at reasons reason

unfoldable pub not_certified_text : ℕ → ℕ → List ℕ
not_certified_text reason line =
    cond (eqb line 0)
    (bytes "not certified: " ++ reason_text reason ++ bytes "\n")
    (bytes "not certified: " ++ reason_text reason ++ bytes " (line " ++ decimal line ++ bytes " of the certificate)\n")

unfoldable pub no_draw_text : Bool → List ℕ
no_draw_text certified = cond certified (bytes "no draw: certified\n") (bytes "no draw: settled out\n")

-- ---- of a draw's groups: what is wrong with the line, by the numbers of group_lines, and the number of the group or entrant

abbrev pub fault_starts : List (ℕ × String)
fault_starts = (2, "the sheet has no group ") ∷ (3, "group ") ∷ (4, "group ") ∷ (5, "entrant ") ∷ (6, "entrant ") ∷ []

abbrev pub fault_ends : List (ℕ × String)
fault_ends =
    (2, "\n")
    ∷ (3, " stands twice\n")
    ∷ (4, " is missing\n")
    ∷ (5, " is not one of the sheet's\n")
    ∷ (6, " stands twice in the line\n")
    ∷ []

unfoldable pub fault_start : ℕ → List ℕ
fault_start fault = text_at fault_starts fault

unfoldable pub fault_end : ℕ → List ℕ
fault_end fault = text_at fault_ends fault

unfoldable pub wrong_groups_text : ℕ → ℕ → ℕ → List ℕ
wrong_groups_text fault line number =
    cond (eqb fault 1)
    (bytes "line " ++ decimal line ++ bytes ": not a line as `1: 3 7 9`: the group's number, a colon, then each entrant after one space\n")
    (bytes "line " ++ decimal line ++ bytes ": " ++ fault_start fault ++ decimal number ++ fault_end fault)

-- ---- of a program: what it could not write, an argument that is missing, how it is called

unfoldable pub notice_text : Notice → List ℕ
notice_text OutputNotWritten = bytes "the output could not be written\n"
notice_text ListingNotWritten = bytes "the listing could not be written\n"
notice_text SheetNotWritten = bytes "the sheet could not be written\n"
notice_text GroupsTooLong = bytes "the groups have more than 65,536 bytes\n"
notice_text Sheet = bytes "argument 1, the sheet"
notice_text FirstSheet = bytes "argument 1, the first sheet"
notice_text SecondSheet = bytes "argument 2, the second sheet"
notice_text AnswerUsage = bytes "usage: read_answer VARIABLES < ANSWER\n"

-- ---- a message by value: the text over zeros

abbrev pub zeros : List ℕ
zeros = replicate 160 0

unfoldable pub message : List ℕ → Message
message text = record { length = length text; bytes = text ++ drop (length text) zeros }

-- the text is a part of the bytes; both are stated, for a caller that lends `&bytes[..length]`
abbrev pub Counted : Message → Type 0
Counted m = (m.length ≤ length m.bytes) × (m.length ≡ length (take m.length m.bytes))

-- with a text after it, where there is room
unfoldable pub added : Message → List ℕ → Message
added m text = record { length = place_after text m.length (length m.bytes); bytes = placed text m.length m.bytes }

-- the same of the texts that a test picks
unfoldable pub added_result : Message → Tried → Message
added_result m t = cond (eqb t.refusal 0) (added m (decimal t.length)) (added (added m (bytes "refused ")) (decimal t.refusal))

unfoldable pub added_tried : Message → Tried → Message
added_tried m t = added_result (added (added (added m (bytes "; in ")) (decimal t.room)) (bytes " bytes: ")) t
