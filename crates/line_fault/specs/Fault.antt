-- What is wrong with a refused line, and where: over the reader's own definitions, so that the place named is where
-- they refuse.
use Rattle.std.specs.Prelude.{ℕ, zero, suc, ◌+◌, ◌-◌, ◌*◌, ◌/◌, min, Bool, cond, not, ◌&&◌, List, leb, ltb, eqb, length, get_or}
use Rattle.model.specs.Lists.{between}
use Rattle.model.specs.Limits.{limits, groups_for}
use Rattle.model.specs.Model.{code_in_range}
use Rattle.model.specs.Sheet.{field_at, field_value, field_number, value_at, is_mark_column, good_field, first_group, count_from, group_count}
use Rattle.line_fault.specs.declared.Head.{Head}
use Rattle.line_fault.specs.declared.Columns.{Columns}
use Rattle.line_fault.specs.declared.Four.{Four}
use Rattle.line_fault.specs.declared.Name.{Name}
use Rattle.line_fault.specs.declared.Name.TheVariants as name
use Rattle.line_fault.specs.declared.Range.{Range}
use Rattle.line_fault.specs.declared.Fault.{Fault}
use Rattle.line_fault.specs.declared.Fault.TheVariants.{Nothing, OrderMark, Return, Tab, Width, Unread, Outside, Count, Marks}

-- the first of the places a, a + 1, .. (k of them) at which a test fails; a + k where it fails at none
abbrev pub first_not : (ℕ → Bool) → ℕ → ℕ → ℕ
first_not p a zero = a
first_not p a (suc k) = cond (p a) (first_not p (suc a) k) a

-- the columns of field i, from 0; columns are counted from 1
unfoldable pub columns : ℕ → Columns
columns i = record { first = i * 4 + 1; last = i * 4 + 4 }

-- ---- 3 and 4: a byte order mark before the head, a carriage return or a tab are named before the length or the field

-- the three bytes of a byte order mark in UTF-8
unfoldable pub order_mark : List ℕ → Bool
order_mark l = eqb (get_or l 0 0) 239 && (eqb (get_or l 1 0) 187 && eqb (get_or l 2 0) 191)

abbrev pub no_tab : List ℕ → ℕ → Bool
no_tab l i = not (eqb (get_or l i 0) 9)

-- the place of the first tab; the line's length where it has none
unfoldable pub tab_at : List ℕ → ℕ
tab_at l = first_not (no_tab l) 0 (length l)

unfoldable pub form_fault : ℕ → List ℕ → Fault → Fault
form_fault done l other =
    cond (eqb done 0 && order_mark l) OrderMark
    (cond (eqb (get_or l (length l - 1) 0) 13) Return
    (cond (ltb (tab_at l) (length l)) (Tab (tab_at l + 1)) other))

-- 4: the first field that is not as it should be, and its four bytes
unfoldable pub bad_field : List ℕ → ℕ
bad_field l = first_not (good_field l) 0 (length l / 4)

unfoldable pub four_of : List ℕ → Four
four_of f = record { a = get_or f 0 0; b = get_or f 1 0; c = get_or f 2 0; d = get_or f 3 0 }

unfoldable pub unread_fault : List ℕ → Fault
unread_fault l = Unread (columns (bad_field l)) (four_of (field_at l (bad_field l)))

-- ---- 7: the first field whose number is out of its range

-- the number in field i of a line
unfoldable pub number_at : List ℕ → ℕ → ℕ
number_at l i = field_number (field_value (field_at l i)) (is_mark_column l i)

-- what a number is, with the least and the most that it may be
abbrev pub bounds : Name → ℕ → ℕ → Range
bounds n low high = record { name = n; low = low; high = high }

-- "1, n (entrants, 1 to 32), s (groups, 1 to 256), c (constraint lines, 0 to 256)"; "With n above 32, s is at most 96"
unfoldable pub head_range : List ℕ → ℕ → Range
head_range l i =
    cond (eqb i 1) (bounds name.Entrants 1 limits.entrants)
    (cond (eqb i 2) (bounds (cond (leb (value_at l 1) limits.narrow) name.Groups name.GroupsOfMany) 1 (groups_for (value_at l 1)))
    (bounds name.Constraints 0 limits.constraints))

-- "low, high (low ≤ high ≤ n), then a mark per entrant: 0 barred, 1 open, 2 fixed"
unfoldable pub group_range : ℕ → List ℕ → ℕ → Range
group_range n l i =
    cond (eqb i 2) (bounds name.Low 0 (min (value_at l 3) n))
    (cond (eqb i 3) (bounds name.High 0 n) (bounds name.Mark 0 2))

-- of the line after `done` lines, of which the head said n and s; "Group numbers are 1 to s"
unfoldable pub field_range : Head → ℕ → List ℕ → ℕ → Range
field_range h done l i =
    cond (eqb done 0) (head_range l i)
    (cond (leb done h.s) (group_range h.n l i) (bounds name.Group 1 h.s))

-- the first field that 7 judges: "a group line's own number is judged by 8 alone"
unfoldable pub first_judged : Head → ℕ → List ℕ → ℕ
first_judged h done l = cond (eqb done 0) 1 (cond (leb done h.s) 2 (first_group l))

unfoldable pub in_range : Head → ℕ → List ℕ → ℕ → Bool
in_range h done l i = between (field_range h done l i).low (field_range h done l i).high (number_at l i)

unfoldable pub out_field : Head → ℕ → List ℕ → ℕ
out_field h done l = first_not (in_range h done l) (first_judged h done l) (length l / 4 - first_judged h done l)

unfoldable pub number_fault : List ℕ → ℕ → Range → Fault
number_fault l i range = Outside (columns i) (number_at l i) range

unfoldable pub out_fault : Head → ℕ → List ℕ → Fault
out_fault h done l = number_fault l (out_field h done l) (field_range h done l (out_field h done l))

-- ---- 6: how many fields the line has, and the least and the most that it may have; or its code, or the count of code 6

unfoldable pub constraint_count : List ℕ → Fault
constraint_count l =
    cond (ltb (length l / 4) 4) (Count (length l / 4) 4 (limits.members + 3))
    (cond (not (between 1 7 (value_at l 1))) (number_fault l 1 (bounds name.Code 1 7))
    (cond (not (code_in_range (value_at l 1) (count_from l))) (number_fault l 2 (bounds name.Count 2 (limits.members - 1)))
    (Count (length l / 4) (first_group l + group_count l) (first_group l + group_count l))))

unfoldable pub count_fault : Head → ℕ → List ℕ → Fault
count_fault h done l =
    cond (eqb done 0) (Count (length l / 4) 4 4)
    (cond (leb done h.s) (Marks (length l / 4) h.n) (constraint_count l))

-- ---- 5 of the head, and 8

unfoldable pub kind_fault : List ℕ → Fault
kind_fault l = number_fault l 0 (bounds name.Kind 1 1)

-- group `done` is due
unfoldable pub next_fault : ℕ → List ℕ → Fault
next_fault done l = number_fault l 1 (bounds name.NextGroup done done)

-- ---- the fault of a line with that refusal, after `done` lines, of which the head said h

unfoldable pub line_fault : Head → ℕ → ℕ → List ℕ → Fault
line_fault h done r l =
    cond (ltb limits.sheet (length l)) Nothing
    (cond (eqb r 3) (form_fault done l (Width (length l)))
    (cond (eqb r 4) (form_fault done l (unread_fault l))
    (cond (eqb r 5) (kind_fault l)
    (cond (eqb r 6) (count_fault h done l)
    (cond (eqb r 7) (out_fault h done l)
    (cond (eqb r 8) (next_fault done l) Nothing))))))
