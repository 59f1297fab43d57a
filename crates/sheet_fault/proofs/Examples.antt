-- Sheets that compute, each with the reader's refusal and line. Assumes nothing.
use Prim.Native.Nat.{ℕ}
use Prim.Native.Char.{code}
use Prim.Native.String.{String, [] as no_text, ◌∷◌ as ◌before◌}
use mathlib.Core.Path.{◌≡◌, refl}
use mathlib.Core.List.{List, [], ◌∷◌, ◌++◌}
use Rattle.model.specs.Limits.{groups_for}
use Rattle.model.specs.Sheet.{field_at, number_of, field_value, value_at, is_mark_column, good_field, head_refusal}
use Rattle.line_fault.specs.declared.Name.TheVariants as name
use Rattle.line_fault.specs.declared.Fault.TheVariants.{OrderMark, Return, Tab, Unread, Outside, Marks, Lines, Unended}
use Rattle.line_fault.specs.Fault.{columns, order_mark, tab_at, form_fault, bad_field, four_of, unread_fault, number_at, head_range, group_range, field_range, first_judged, in_range, out_field, number_fault, out_fault, count_fault, line_fault}
use Rattle.sheet_fault.specs.Fault.{line_at, head_of, end_fault, kind_due, lines_fault, sheet_fault}

abbrev bytes : String → List ℕ
bytes no_text = []
bytes (c before s) = code c ∷ bytes s

-- a sheet of three entrants, two groups and a constraint, with other words for the first group
abbrev with_group_lem : String → List ℕ
with_group_lem line = bytes "   1   3   2   1\n" ++ bytes line ++ bytes "\n   2   2   0   3   1   1   0\n   3   2   1   2\n"

a_high : sheet_fault (with_group_lem "   2   1   1   4   1   1   1") 7 2
    ≡ Outside (record { first = 13; last = 16 }) 4 (record { name = name.High; low = 0; high = 3 })
unfolding sheet_fault head_of line_at head_refusal groups_for line_fault out_fault out_field first_judged in_range field_range group_range number_fault number_at columns field_at number_of field_value value_at is_mark_column
a_high = refl

-- the first of two
a_mark : sheet_fault (with_group_lem "   2   1   1   1       3   4") 7 2
    ≡ Outside (record { first = 21; last = 24 }) 3 (record { name = name.Mark; low = 0; high = 2 })
unfolding sheet_fault head_of line_at head_refusal groups_for line_fault out_fault out_field first_judged in_range field_range group_range number_fault number_at columns field_at number_of field_value value_at is_mark_column
a_mark = refl

-- 33 entrants in 97 groups
groups_of_many : sheet_fault (bytes "   1  33  97   0\n") 7 1
    ≡ Outside (record { first = 9; last = 12 }) 97 (record { name = name.GroupsOfMany; low = 1; high = 96 })
unfolding sheet_fault head_of line_at head_refusal groups_for line_fault out_fault out_field first_judged in_range field_range head_range number_fault number_at columns field_at number_of field_value value_at is_mark_column
groups_of_many = refl

-- the first of two that are no numbers
a_letter : sheet_fault (with_group_lem "   2   1   x   y   1   1   1") 4 2 ≡ Unread (record { first = 9; last = 12 }) (record { a = 32; b = 32; c = 32; d = 120 })
unfolding sheet_fault head_of line_at head_refusal groups_for line_fault form_fault order_mark tab_at unread_fault bad_field good_field four_of columns field_at number_of field_value value_at is_mark_column
a_letter = refl

a_tab : sheet_fault (with_group_lem "   2\t  1   1   1   1   1   1") 4 2 ≡ Tab 5
unfolding sheet_fault head_of line_at head_refusal groups_for line_fault form_fault order_mark tab_at field_at number_of field_value value_at is_mark_column
a_tab = refl

a_return : sheet_fault (with_group_lem "   2\t  1   1   1   1   1   1" ++ 13 ∷ 10 ∷ []) 3 5 ≡ Return
unfolding sheet_fault head_of line_at head_refusal groups_for line_fault form_fault order_mark tab_at field_at number_of field_value value_at is_mark_column
a_return = refl

a_mark_of_order : sheet_fault (239 ∷ 187 ∷ 191 ∷ with_group_lem "") 3 1 ≡ OrderMark
unfolding sheet_fault head_of line_at head_refusal groups_for line_fault form_fault order_mark tab_at field_at number_of field_value value_at is_mark_column
a_mark_of_order = refl

marks : sheet_fault (with_group_lem "   2   1   1   1   1   1") 6 2 ≡ Marks 6 3
unfolding sheet_fault head_of line_at head_refusal groups_for line_fault count_fault field_at number_of field_value value_at is_mark_column
marks = refl

-- three lines where the head says four
a_line_missing : sheet_fault (bytes "   1   3   2   1\n   2   1   1   1\n   2   2   1   1\n") 5 4 ≡ Lines (record { n = 3; s = 2; c = 1 }) 4 3 3
unfolding sheet_fault head_of line_at head_refusal groups_for lines_fault kind_due field_at number_of field_value value_at is_mark_column
a_line_missing = refl

unended : sheet_fault (bytes "   1   3   2   1\n   2") 2 0 ≡ Unended 2
unfolding sheet_fault head_of line_at head_refusal groups_for end_fault field_at number_of field_value value_at is_mark_column
unended = refl
