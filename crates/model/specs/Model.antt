-- The model of a sheet and the ranges that refusal 20 asks: "20 a model outside the sheet's ranges, an entrant past n in a set, a group twice in a
-- line, or fixed not within possible (entries past s, c and a line's groups are ignored, and come back from settling as they were)."
use Rattle.std.specs.Prelude.{◌≡◌, ℕ, ◌-◌, ◌^◌, ◌≤◌, Bool, not, ◌&&◌, ◌||◌, List, ◌++◌, T, leb, ltb, eqb, length, replicate, get_or, take, drop}
use Rattle.model.specs.declared.Group.{Group}
use Rattle.model.specs.declared.Constraint.{Constraint}
use Rattle.model.specs.declared.Model.{Model}
use Rattle.std.specs.List.{list_all}
use Rattle.model.specs.Lists.{between, distinct}
use Rattle.model.specs.Words.{inside}
use Rattle.model.specs.Limits.{limits, groups_for}
use Rattle.model.specs.Clauses.{groups_of}

-- the all-zero model
unfoldable pub zero_group : Group
zero_group = record { fixed = 0; possible = 0; low = 0; high = 0 }

unfoldable pub zero_constraint : Constraint
zero_constraint = record { code = 0; count = 0; groups = replicate limits.members 0 }

unfoldable pub zero_model : Model
zero_model = record {
  n = 0;
  s = 0;
  c = 0;
  groups = replicate limits.groups zero_group;
  constraints = replicate limits.constraints zero_constraint;
}

-- "The table holds, per group, the fixed entrants, the possible ones (marks 1 and 2), low and high.": groups 1..s. And constraints 1..c
unfoldable pub table_of : Model → List Group
table_of m = take m.s m.groups

unfoldable pub constraints_of : Model → List Constraint
constraints_of m = take m.c m.constraints

-- group number g of a table
unfoldable pub group_at : List Group → ℕ → Group
group_at t g = get_or t (g - 1) zero_group

-- the group that is member i of a constraint
unfoldable pub member_at : List Group → Constraint → ℕ → Group
member_at t c i = group_at t (get_or c.groups i 0)

-- the model with another table; entries past s stay
unfoldable pub with_table : Model → List Group → Model
with_table m t = record { n = m.n; s = m.s; c = m.c; groups = t ++ drop m.s m.groups; constraints = m.constraints }

-- the lists that stand for the model's arrays hold its groups and constraints, and a constraint's list as many groups as a constraint may have
pub record Sized (m : Model) : Type 0 where
  pub groups : m.s ≤ length m.groups
  pub constraints : m.c ≤ length m.constraints

abbrev pub constraint_sized : Constraint → Bool
constraint_sized c = leb limits.members (length c.groups)

abbrev pub members_sized : Model → Bool
members_sized m = list_all constraint_sized (constraints_of m)

-- the lists of groups and of constraints have the length of the array that they stand for, and each constraint's list at least the length of its own
pub record Whole (m : Model) : Type 0 where
  pub groups : length m.groups ≡ limits.groups
  pub constraints : length m.constraints ≡ limits.constraints
  pub members : T (list_all constraint_sized m.constraints)

-- "low ≤ high ≤ n", no entrant past n, fixed within possible
unfoldable pub group_in_range : ℕ → Group → Bool
group_in_range n g =
    inside g.fixed g.possible && ltb g.possible (2 ^ n) && leb g.low g.high && leb g.high n

-- code 1 to 7 by request 6, "a count k (2 to 16)" of code 6, "Group numbers are 1 to s, all different in a line"
unfoldable pub code_in_range : ℕ → ℕ → Bool
code_in_range code k = between 1 7 code && (not (eqb code 6) || between 2 (limits.members - 1) k)

unfoldable pub constraint_in_range : ℕ → Constraint → Bool
constraint_in_range s c = code_in_range c.code c.count && list_all (between 1 s) (groups_of c) && distinct (groups_of c)

-- refusal 20 is the opposite of this
unfoldable pub in_range : Model → Bool
in_range m =
    between 1 limits.entrants m.n && between 1 (groups_for m.n) m.s && leb m.c limits.constraints
    && list_all (group_in_range m.n) (table_of m) && list_all (constraint_in_range m.s) (constraints_of m)
