-- Settling that skips: the invariant of the marks, and what each step does.
use Rattle.std.specs.Prelude.{ℕ, ◌+◌, ◌-◌, ◌*◌, ◌≤◌, ◌<◌, ◌≡◌, Bool, true, false, Option, Some, None, List, map, T, length, get_or, set, take}
use Rattle.model.specs.declared.Group.{Group}
use Rattle.model.specs.declared.Constraint.{Constraint}
use Rattle.model.specs.declared.Model.{Model}
use Rattle.std.specs.List.{list_all}
use Rattle.model.specs.Lists.{range}
use Rattle.model.specs.Limits.{limits}
use Rattle.model.specs.Clauses.{groups_of}
use Rattle.model.specs.Model.{zero_group, zero_constraint, code_in_range, constraint_sized}
use Rattle.model.specs.Propagate.{group_rule_at, constraint_rule, run, rules, tenable, same_table, Outcome, contradiction, fixpoint, iterate}
use Rattle.marks.specs.Marks.{marked}
use Rattle.table.specs.Table.{Whole}
use Rattle.propagation_laws.proofs.Locality.{owns}
use Rattle.propagation_laws.proofs.AtTheEnd.{late}
use Rattle.propagate.specs.declared.Run.{Run}

-- line j
abbrev pub line_at : List Constraint → ℕ → Constraint
line_at cs j = get_or cs j zero_constraint

-- the index of the lines: row i marks each line that has the group at place i
pub record Index (cs : List Constraint) (index : List ℕ) : Type 0 where
  pub few : length cs ≤ 256
  pub code : (j : ℕ) → j < length cs → T (code_in_range (line_at cs j).code (line_at cs j).count)
  pub wide : (j : ℕ) → j < length cs → limits.members ≤ length (line_at cs j).groups
  pub row : (j : ℕ) → j < length cs → (i : ℕ) → owns (groups_of (line_at cs j)) i ≡ true → marked index (256 * i + j) ≡ true

-- the index with line j in the rows of its groups
pub record AddsLine (j : ℕ) (ids : List ℕ) (index next : List ℕ) : Type 0 where
  pub size : length next ≡ length index
  pub old : (k : ℕ) → marked index k ≡ true → marked next k ≡ true
  pub row : (i : ℕ) → owns ids i ≡ true → marked next (256 * i + j) ≡ true

-- THE INVARIANT: every rule that is not marked leaves the table as it is
pub record Quiet (n s : ℕ) (cs : List Constraint) (gs ls : List ℕ) (t : List Group) : Type 0 where
  pub groups : (i : ℕ) → i < s → marked gs i ≡ false → group_rule_at (i + 1) t ≡ t
  pub lines : (j : ℕ) → j < length cs → marked ls j ≡ false → constraint_rule n (line_at cs j) t ≡ t

-- from the marks gs ls and the table x to the marks gs₁ ls₁ and the table y: what is not marked now was not marked before, and no place of its changed
pub record Covers (index gs ls : List ℕ) (x : List Group) (gs₁ ls₁ : List ℕ) (y : List Group) : Type 0 where
  pub groups : (i : ℕ) → marked gs₁ i ≡ false → (marked gs i ≡ false) × (get_or y i zero_group ≡ get_or x i zero_group)
  pub lines : (j : ℕ) → j < 256 → marked ls₁ j ≡ false
      → (marked ls j ≡ false) × ((i : ℕ) → marked index (256 * i + j) ≡ true → get_or y i zero_group ≡ get_or x i zero_group)

-- u is the table, x the one last seen and y the one seen now, which has the group at place i; r is whether it differed
pub record Notes (r : Bool) (i : ℕ) (index : List ℕ) (u x y : List Group) (gs ls gs₁ ls₁ : List ℕ) : Type 0 where
  pub seen : y ≡ set x i (get_or u i zero_group)
  pub same : r ≡ false → y ≡ x
  pub still : get_or u i zero_group ≡ get_or x i zero_group → r ≡ false
  pub covers : Covers index gs ls x gs₁ ls₁ y

-- the same of all groups of a line, which are all that differ: then the table is seen
pub record NotesAll (r : Bool) (index : List ℕ) (u x y : List Group) (gs ls gs₁ ls₁ : List ℕ) : Type 0 where
  pub seen : y ≡ u
  pub same : r ≡ false → y ≡ x
  pub still : u ≡ x → r ≡ false
  pub covers : Covers index gs ls x gs₁ ls₁ y

-- the two tables differ at places of the first k groups alone
abbrev pub DifferIn : List ℕ → List Group → List Group → Type 0
DifferIn ids x u = (i : ℕ) → owns ids i ≡ false → get_or x i zero_group ≡ get_or u i zero_group

-- a step by a rule: r is whether it changed the table t, u is the next
pub record Step (Of : ℕ → List Constraint → Type 0) (rule : List Group → List Group) (index : List ℕ) (r : Bool) (t : List Group) (gs ls : List ℕ)
    (u y : List Group) (gs₁ ls₁ : List ℕ) : Type 0 where
  pub next : u ≡ rule t
  pub seen : y ≡ u
  pub same : r ≡ false → u ≡ t
  pub still : rule t ≡ t → r ≡ false
  pub quiet : (n s : ℕ) (cs : List Constraint) → Of n cs → Index cs index → Quiet n s cs gs ls t → Quiet n s cs gs₁ ls₁ u

abbrev pub Any : ℕ → List Constraint → Type 0
Any n cs = Unit {0}

-- of line j, which is l
abbrev pub Line : ℕ → ℕ → Constraint → ℕ → List Constraint → Type 0
Line n j l m cs = (m ≡ n) × ((j < length cs) × (line_at cs j ≡ l))

-- the group rules of groups 1 to s
abbrev pub group_rules : ℕ → List Group → List Group
group_rules s = run (map group_rule_at (range 1 s))

abbrev pub GroupsStill : ℕ → List Group → Type 0
GroupsStill s t = (i : ℕ) → i < s → group_rule_at (i + 1) t ≡ t

-- the marked ones among them
pub record GroupSteps (s : ℕ) (index : List ℕ) (r : Bool) (t : List Group) (gs ls : List ℕ) (u : List Group) (gs₁ ls₁ : List ℕ) : Type 0 where
  pub same : r ≡ false → u ≡ t
  pub still : GroupsStill s t → r ≡ false
  pub goes : (n : ℕ) (cs : List Constraint) → Index cs index → Quiet n s cs gs ls t → (u ≡ group_rules s t) × Quiet n s cs gs₁ ls₁ u

-- ---- passes

-- passes until one changes nothing, whatever the table is
abbrev pub loose : ℕ → ℕ → List Constraint → ℕ → ℕ → List Group → Outcome (List Group)
loose n s cs fuel k t = iterate (λ y. true) same_table (run (rules n s cs)) fuel k t

-- the test of a table, at its first s places
abbrev pub tenable_first : ℕ → List Constraint → List Group → Bool
tenable_first s cs t = tenable cs (take s t)

-- the passes made and the table; none where the fuel did not do, or the table is not tenable
abbrev pub reached : Option Run → Outcome (List Group)
reached None = contradiction
reached (Some r) = fixpoint r.passes r.table

-- from t on, after j passes
pub record Ran (n s : ℕ) (cs : List Constraint) (fuel j : ℕ) (t : List Group) (o : Outcome (List Group)) : Type 0 where
  pub outcome : late (tenable_first s cs) (loose n s cs (fuel - j) j t) ≡ late (tenable_first s cs) o

-- u is the table after a pass from a model's own, with the answers of both tests
pub record After (m : Model) (u : List Group) (same ok : Bool) : Type 0 where
  pub sized : T (list_all constraint_sized m.constraints)
  pub before : Whole m.groups
  pub pass : u ≡ run (rules m.n m.s (take m.c m.constraints)) m.groups
  pub same-is : same ≡ same_table (take m.s u) (take m.s m.groups)
  pub ok-is : ok ≡ tenable (take m.c m.constraints) (take m.s u)
