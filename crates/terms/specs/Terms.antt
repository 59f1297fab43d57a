-- What is known of an entrant in the groups of a constraint. Assumes nothing.
use Rattle.std.specs.Prelude.{ℕ, ◌+◌, ◌-◌, ◌%◌, ◌^◌, ◌<◌, Bool, cond, not, ◌&&◌, List, [], ◌++◌, map, length, get_or, take, replicate, ◌==◌, nat_le, nat_lt, slice_index, slice_index_or}
use Rattle.model.specs.declared.Group.{Group}
use Rattle.model.specs.declared.Literal.{Literal}
use Rattle.model.specs.declared.Literal.TheVariants.{Pos, Neg}
use Rattle.model.specs.declared.Term.{Term}
use Rattle.model.specs.declared.Term.TheVariants.{Holds, Fails, Open}
use Rattle.std.specs.List.{list_any, flat_map}
use Rattle.model.specs.Lists.{between}
use Rattle.model.specs.Limits.{limits}
use Rattle.model.specs.Words.{less, size, has}
use Rattle.model.specs.Clauses.{member_clauses}
use Rattle.model.specs.Model.{zero_group, group_at}
use Rattle.model.specs.Assignment.{variable}
use Rattle.model.specs.Cnf.{first_variable}
use Rattle.model.specs.Totalizer.{opposite_term, holds}
use Rattle.text.specs.Put.{term_text}
use Rattle.terms.specs.declared.Member.{Member}

-- ---- the members of a constraint

-- an array of n places whose first k are those of xs by f; the others hold d
abbrev pub first_of : {A B : Type 0} → (A → B) → B → ℕ → ℕ → List A → List B
first_of f d n k xs = map f (take k xs) ++ replicate (n - k) d

unfoldable pub no_member : Member
no_member = record { fixed = 0; possible = 0; first = 0 }

-- where group g stands; a number that no group has stands for the first
unfoldable pub place_of : ℕ → ℕ
place_of g = cond (between 1 limits.groups g) (g - 1) 0

-- group g of an array, with its first variable
unfoldable pub member_at : List Group → List ℕ → ℕ → Member
member_at groups first g = record {
  fixed = (get_or groups (place_of g) zero_group).fixed;
  possible = (get_or groups (place_of g) zero_group).possible;
  first = slice_index first (place_of g);
}

-- group g of a table
unfoldable pub member_of : List Group → ℕ → Member
member_of t g = record { fixed = (group_at t g).fixed; possible = (group_at t g).possible; first = first_variable t g }

-- the X of a code 7 constraint, from x on: a member with nobody fixed, where those who have one are possible
unfoldable pub difference_member : ℕ → ℕ → Member
difference_member x o = record { fixed = 0; possible = o; first = x }

-- ---- an entrant in a group, as one number

abbrev pub absent : ℕ
absent = 0

abbrev pub present : ℕ
present = 2 ^ 32 - 1

-- "in group g" for bit e: absent, present, or else the variable that says so, in numbers of 32 bits
unfoldable pub member_number : ℕ → Member → ℕ
member_number e m =
    cond (has m.fixed e) present
    (cond (has m.possible e) ((m.first + size (less m.possible m.fixed % 2 ^ e)) % 2 ^ 32) absent)

-- the number of member i in an array; one past it is present
unfoldable pub number_at : List ℕ → ℕ → ℕ
number_at ns i = cond (nat_lt i limits.members) (slice_index_or ns i absent) present

-- whether the solver is to say it
unfoldable pub is_open : ℕ → Bool
is_open x = not (x == absent) && not (x == present)

-- the term that a number stands for
unfoldable pub number_term : ℕ → Term
number_term x = cond (x == absent) Fails (cond (x == present) Holds (Open (Pos x)))

-- ---- a clause

-- a literal of a member, where the members' numbers are ns
abbrev pub literal_term : List ℕ → Literal → Term
literal_term ns (Pos i) = number_term (number_at ns i)
literal_term ns (Neg i) = opposite_term (number_term (number_at ns i))

unfoldable pub clause_of : ℕ → ℕ → ℕ → List Literal
clause_of code count j = slice_index_or (member_clauses code count) j []

-- the terms of clause j
unfoldable pub clause_terms : List ℕ → ℕ → ℕ → ℕ → List Term
clause_terms ns code count j = map (literal_term ns) (clause_of code count j)

-- the first k members are enough: no clause has a literal of a later one
pub record MembersBelow (k code count : ℕ) : Type 0 where
  pub below : (j i : ℕ) → j < length (member_clauses code count) → i < length (clause_of code count j) → variable (slice_index_or (clause_of code count j) i (Pos 0)) < k

-- a clause that is kept, and for which there is room
unfoldable pub goes : List Term → ℕ → ℕ → Bool
goes ts at room = not (list_any holds ts) && nat_le (at + (length (flat_map term_text ts) + 2)) room
