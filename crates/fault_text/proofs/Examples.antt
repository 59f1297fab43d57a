-- Words that compute. Assumes nothing.
use mathlib.Core.Path.{◌≡◌, refl}
use Rattle.model.specs.Text.{digits, decimal}
use Rattle.report.specs.Messages.{bytes}
use Rattle.line_fault.specs.declared.Name.TheVariants as name
use Rattle.line_fault.specs.declared.Fault.TheVariants.{Tab, Unread, Outside, Count, Marks, Lines, Unended}
use Rattle.fault_text.specs.Texts.{name_text, shown_byte, tab_text, unread_text, outside_text, count_text, marks_text, due_text, lines_text, unended_text, fault_text}

a_tab : fault_text (Tab 17) ≡ bytes "the line has a tab in column 17\n"
unfolding tab_text decimal digits
a_tab = refl

-- a letter, a digit, a tab, a space
unread : fault_text (Unread (record { first = 9; last = 12 }) (record { a = 120; b = 51; c = 9; d = 32 })) ≡ bytes "columns 9 to 12 have `x3? `\n"
unfolding unread_text shown_byte decimal digits
unread = refl

a_high : fault_text (Outside (record { first = 13; last = 16 }) 70 (record { name = name.High; low = 0; high = 64 }))
    ≡ bytes "columns 13 to 16 have 70: the high of a group must be 0 to 64\n"
unfolding outside_text name_text decimal digits
a_high = refl

a_number : fault_text (Outside (record { first = 5; last = 8 }) 3 (record { name = name.NextGroup; low = 2; high = 2 }))
    ≡ bytes "columns 5 to 8 have 3: the number of this group must be 2\n"
unfolding outside_text name_text decimal digits
a_number = refl

a_head : fault_text (Count 3 4 4) ≡ bytes "the line has 3 fields: it must have 4\n"
unfolding count_text decimal digits
a_head = refl

marks : fault_text (Marks 6 3) ≡ bytes "the line has 6 fields: a group has 4, and a mark for each of the 3 entrants\n"
unfolding marks_text decimal digits
marks = refl

a_line_missing : fault_text (Lines (record { n = 8; s = 12; c = 4 }) 17 16 3)
    ≡ bytes "the head says 12 groups and 4 constraints, so 17 lines; the sheet has 16; a constraint (3) is due here\n"
unfolding lines_text due_text decimal digits
a_line_missing = refl

unended : fault_text (Unended 5) ≡ bytes "the last line, line 5, does not end in a newline\n"
unfolding unended_text decimal digits
unended = refl
