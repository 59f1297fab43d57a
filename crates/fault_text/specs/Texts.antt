-- What is wrong with a refused sheet, in words for the counter: a line after the refusal's own.
use Rattle.std.specs.Prelude.{ℕ, cond, List, [], ◌∷◌, ◌++◌, eqb}
use Rattle.model.specs.Lists.{between}
use Rattle.model.specs.Text.{decimal}
use Rattle.report.specs.declared.Message.{Message}
use Rattle.report.specs.Messages.{bytes, message, added}
use Rattle.line_fault.specs.declared.Head.{Head}
use Rattle.line_fault.specs.declared.Columns.{Columns}
use Rattle.line_fault.specs.declared.Four.{Four}
use Rattle.line_fault.specs.declared.Name.{Name}
use Rattle.line_fault.specs.declared.Name.TheVariants as name
use Rattle.line_fault.specs.declared.Range.{Range}
use Rattle.line_fault.specs.declared.Fault.{Fault}
use Rattle.line_fault.specs.declared.Fault.TheVariants.{Nothing, OrderMark, Return, Tab, Width, Unread, Outside, Count, Marks, Lines, Empty, Unended}

-- what a number is
unfoldable pub name_text : Name → List ℕ
name_text name.Entrants = bytes "the number of entrants"
name_text name.Groups = bytes "the number of groups"
name_text name.GroupsOfMany = bytes "the number of groups, with more than 32 entrants,"
name_text name.Constraints = bytes "the number of constraints"
name_text name.Low = bytes "the low of a group, at most its high,"
name_text name.High = bytes "the high of a group"
name_text name.Mark = bytes "a mark"
name_text name.Group = bytes "a group's number"
name_text name.Code = bytes "the code"
name_text name.Count = bytes "the count of code 6"
name_text name.Kind = bytes "the first field of the head"
name_text name.NextGroup = bytes "the number of this group"
name_text (name.Other n) = []

-- bytes that do not print are shown as `?`
unfoldable pub shown_byte : ℕ → ℕ
shown_byte b = cond (between 32 126 b) b 63

abbrev pub shown_bytes : Four → List ℕ
shown_bytes f = shown_byte f.a ∷ shown_byte f.b ∷ shown_byte f.c ∷ shown_byte f.d ∷ []

unfoldable pub tab_text : ℕ → List ℕ
tab_text column = bytes "the line has a tab in column " ++ decimal column ++ bytes "\n"

unfoldable pub width_text : ℕ → List ℕ
width_text k = bytes "the line has " ++ decimal k ++ bytes " columns\n"

unfoldable pub unread_text : Columns → Four → List ℕ
unread_text at four =
    bytes "columns " ++ decimal at.first ++ bytes " to " ++ decimal at.last ++ bytes " have `" ++ shown_bytes four ++ bytes "`\n"

-- a range of one number is that number
unfoldable pub outside_text : Columns → ℕ → Range → List ℕ
outside_text at v range =
    cond (eqb range.low range.high)
    (bytes "columns " ++ decimal at.first ++ bytes " to " ++ decimal at.last ++ bytes " have " ++ decimal v ++ bytes ": "
    ++ name_text range.name ++ bytes " must be " ++ decimal range.low ++ bytes "\n")
    (bytes "columns " ++ decimal at.first ++ bytes " to " ++ decimal at.last ++ bytes " have " ++ decimal v ++ bytes ": "
    ++ name_text range.name ++ bytes " must be " ++ decimal range.low ++ bytes " to " ++ decimal range.high ++ bytes "\n")

unfoldable pub count_text : ℕ → ℕ → ℕ → List ℕ
count_text has low high =
    cond (eqb low high)
    (bytes "the line has " ++ decimal has ++ bytes " fields: it must have " ++ decimal low ++ bytes "\n")
    (bytes "the line has " ++ decimal has ++ bytes " fields: it must have " ++ decimal low ++ bytes " to " ++ decimal high ++ bytes "\n")

unfoldable pub marks_text : ℕ → ℕ → List ℕ
marks_text has n =
    bytes "the line has " ++ decimal has ++ bytes " fields: a group has 4, and a mark for each of the " ++ decimal n ++ bytes " entrants\n"

unfoldable pub due_text : ℕ → List ℕ
due_text due =
    cond (eqb due 2) (bytes "; a group (2) is due here\n")
    (cond (eqb due 3) (bytes "; a constraint (3) is due here\n") (bytes "\n"))

unfoldable pub lines_text : Head → ℕ → ℕ → ℕ → List ℕ
lines_text h lines has due =
    bytes "the head says " ++ decimal h.s ++ bytes " groups and " ++ decimal h.c ++ bytes " constraints, so " ++ decimal lines
    ++ bytes " lines; the sheet has " ++ decimal has ++ due_text due

unfoldable pub unended_text : ℕ → List ℕ
unended_text line = bytes "the last line, line " ++ decimal line ++ bytes ", does not end in a newline\n"

abbrev pub fault_text : Fault → List ℕ
fault_text Nothing = []
fault_text OrderMark = bytes "the sheet begins with a byte order mark\n"
fault_text Return = bytes "the line ends in a carriage return\n"
fault_text (Tab column) = tab_text column
fault_text (Width k) = width_text k
fault_text (Unread at four) = unread_text at four
fault_text (Outside at v range) = outside_text at v range
fault_text (Count has low high) = count_text has low high
fault_text (Marks has n) = marks_text has n
fault_text (Lines h lines has due) = lines_text h lines has due
fault_text Empty = bytes "the sheet is empty\n"
fault_text (Unended line) = unended_text line

-- ---- a message on its way

-- the columns of a field
unfoldable pub columns_message : Columns → Message
columns_message at = added (added (added (added (message []) (bytes "columns ")) (decimal at.first)) (bytes " to ")) (decimal at.last)

-- with a range after it; a range of one number is that number
unfoldable pub added_range : Message → ℕ → ℕ → Message
added_range m low high =
    cond (eqb low high)
    (added (added m (decimal low)) (bytes "\n"))
    (added (added (added (added m (decimal low)) (bytes " to ")) (decimal high)) (bytes "\n"))
