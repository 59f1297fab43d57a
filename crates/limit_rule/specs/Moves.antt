-- What a rule of the limits alone does to the limits of a table, as two lists, whatever its sets are.
use Rattle.std.specs.Prelude.{ℕ, ◌-◌, cond, List, map, ltb, get_or, replicate}
use Rattle.model.specs.declared.Group.{Group}
use Rattle.model.specs.declared.Constraint.{Constraint}
use Rattle.model.specs.Limits.{limits}
use Rattle.model.specs.LimitRules.{limit_rules}
use Rattle.model.specs.Propagate.{run}
use Rattle.table.specs.Table.{zipped, Changes}

-- the limit of group g, and 0 where there is no such group
unfoldable pub limit_of : List ℕ → ℕ → ℕ
limit_of l g = cond (ltb (g - 1) limits.groups) (get_or l (g - 1) 0) 0

-- from one pair of lists, low and high, to another, whatever the sets fixed and possible are
abbrev pub Moves : (List Group → List Group) → List ℕ → List ℕ → List ℕ → List ℕ → Type 0
Moves r l h l₁ h₁ = (f p : List ℕ) → Changes r (zipped f p l h) (zipped f p l₁ h₁)

-- a rule of low alone, and of high alone
abbrev pub MovesLow : (List Group → List Group) → List ℕ → List ℕ → Type 0
MovesLow r l l₁ = (h : List ℕ) → Moves r l h l₁ h

abbrev pub MovesHigh : (List Group → List Group) → List ℕ → List ℕ → Type 0
MovesHigh r h h₁ = (l : List ℕ) → Moves r l h l h₁

-- ---- the limits alone, as a table without entrants

unfoldable pub limit_table : List ℕ → List ℕ → List Group
limit_table l h = zipped (replicate limits.groups 0) (replicate limits.groups 0) l h

unfoldable pub lows_after : Constraint → List ℕ → List ℕ → List ℕ
lows_after c l h = map (λ g. g.low) (run (limit_rules c) (limit_table l h))

unfoldable pub highs_after : Constraint → List ℕ → List ℕ → List ℕ
highs_after c l h = map (λ g. g.high) (run (limit_rules c) (limit_table l h))
