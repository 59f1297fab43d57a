-- What the closing call works out: each group's word, and whether a group's and a constraint's clauses hold.
use Rattle.std.specs.Prelude.{ℕ, ◌+◌, ◌-◌, ◌%◌, ◌^◌, Bool, true, cond, not, ◌&&◌, ◌||◌, List, ◌++◌, map, ltb, eqb, get_or, take, replicate}
use Rattle.std.specs.Bool.{beq}
use Rattle.model.specs.declared.Group.{Group}
use Rattle.model.specs.declared.Constraint.{Constraint}
use Rattle.model.specs.declared.Closed.{Closed}
use Rattle.std.specs.List.{list_all}
use Rattle.model.specs.Lists.{total, range, between}
use Rattle.model.specs.Words.{full, size, has, word_where}
use Rattle.model.specs.Limits.{limits}
use Rattle.model.specs.Clauses.{member_clauses, is_difference}
use Rattle.model.specs.Model.{zero_constraint, group_at}
use Rattle.model.specs.Difference.{is_apart}
use Rattle.model.specs.Totalizer.{shape}
use Rattle.model.specs.Cnf.{open_of, open_count, counted, first_variable, first_output, table_variables, differing, difference_count}
use Rattle.model.specs.Solution.{set_of}
use Rattle.model.specs.Close.{truth, clause_true}
use Rattle.model.specs.Fill.{one_of, member_set}
use Rattle.encoding_laws.specs.Division.{tree_clauses}
use Rattle.constraint_clauses.specs.Holds.{clause_holds}

-- ---- a group's word

-- bit e: fixed, or open with a true variable, where the group's variables start at v
abbrev pub in_group : List Bool → Group → ℕ → ℕ → Bool
in_group a g v e = has g.fixed e || (has (open_of g) e && truth a (v + size (open_of g % 2 ^ e)))

-- the bits below n
unfoldable pub word_of : ℕ → List Bool → Group → ℕ → ℕ
word_of n a g v = word_where (in_group a g v) n

-- group g of a table
unfoldable pub word_at : ℕ → List Bool → List Group → ℕ → ℕ
word_at n a t g = word_of n a (group_at t g) (first_variable t g)

-- groups 1 to s of a table; zero past s
unfoldable pub table_words : ℕ → List Bool → List Group → ℕ → List ℕ
table_words n a t s = map (word_at n a t) (range 1 s) ++ replicate (limits.groups - s) 0

-- ---- a group's clauses

-- how many of the m variables from v on are true
unfoldable pub true_count : List Bool → ℕ → ℕ → ℕ
true_count a v m = total (λ i. cond (truth a i) 1 0) (range v m)

-- the m outputs from o on are true up to x, and false above
abbrev pub output_is : List Bool → ℕ → ℕ → ℕ → Bool
output_is a o x i = beq (truth a (o + i)) (ltb i x)

unfoldable pub counts_to : List Bool → ℕ → ℕ → ℕ → Bool
counts_to a o m x = list_all (output_is a o x) (range 0 m)

-- the word w is within the limits, and the totalizer's tree, if there is one, holds
unfoldable pub group_holds : List Bool → Group → ℕ → ℕ → ℕ → Bool
group_holds a g w v o =
    between g.low g.high (size w) && cond (counted g) (list_all (clause_true a) (tree_clauses (shape (open_count g)) v o)) true

-- group g of a table, where the words are d
unfoldable pub group_holds_at : List Bool → List Group → List ℕ → ℕ → Bool
group_holds_at a t d g = group_holds a (group_at t g) (set_of d g) (first_variable t g) (first_output t g)

-- ---- a constraint's clauses, for all entrants at once

-- the word of the X that are true, numbered from x on: that of a group in which nobody is fixed
unfoldable pub word_of_difference : ℕ → List Bool → List Group → Constraint → ℕ → ℕ
word_of_difference n a t c x = word_of n a record { fixed = 0; possible = differing t c; low = 0; high = 0 } x

-- code 7: there are no clauses where an entrant differs already; else the X that are true are those of the entrants in just one set, and there is one
unfoldable pub difference_holds : List Bool → List Group → List ℕ → ℕ → ℕ → Constraint → Bool
difference_holds a t d n x c =
    let w = word_of_difference n a t c x in
    is_apart t c || (eqb w (one_of (member_set d c 0) (member_set d c 1)) && not (eqb w 0))

-- each clause of a constraint whose X are numbered from x on, where the words are d
unfoldable pub constraint_holds : List Bool → List Group → List ℕ → ℕ → ℕ → Constraint → Bool
constraint_holds a t d n x c =
    cond (is_difference c) (difference_holds a t d n x c) (list_all (clause_holds d c.groups (full n)) (member_clauses c.code c.count))

-- the same two without the table, where p is whether an entrant differs already and o who has an X
unfoldable pub difference_holds_of : List Bool → Bool → ℕ → List ℕ → ℕ → ℕ → Constraint → Bool
difference_holds_of a p o d n x c =
    let w = word_of n a record { fixed = 0; possible = o; low = 0; high = 0 } x in
    p || (eqb w (one_of (member_set d c 0) (member_set d c 1)) && not (eqb w 0))

unfoldable pub clauses_hold_of : List Bool → Bool → ℕ → List ℕ → ℕ → ℕ → Constraint → Bool
clauses_hold_of a p o d n x c =
    cond (is_difference c) (difference_holds_of a p o d n x c) (list_all (clause_holds d c.groups (full n)) (member_clauses c.code c.count))

-- the constraint at place i
unfoldable pub constraint_holds_at : List Bool → List Group → List Constraint → List ℕ → ℕ → ℕ → Bool
constraint_holds_at a t cs d n i =
    constraint_holds a t d n (1 + table_variables t + total (difference_count t) (take i cs)) (get_or cs i zero_constraint)

-- ---- closing

-- groups 1 to s of the table t, and the c constraints cs
unfoldable pub clauses_hold : List Bool → List Group → List Constraint → List ℕ → ℕ → ℕ → ℕ → Bool
clauses_hold a t cs d n s c = list_all (group_holds_at a t d) (range 1 s) && list_all (constraint_holds_at a t cs d n) (range 0 c)

-- the number and zeros
unfoldable pub refused_closing : ℕ → Closed
refused_closing x = record { refusal = x; groups = replicate limits.groups 0 }
