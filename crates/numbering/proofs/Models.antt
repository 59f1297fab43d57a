-- The parts of a model's numbering, and the number of one group. Assumes nothing.
use mathlib.Core.Path.{◌≡◌, ap, ◌∙◌}
use mathlib.Core.List.{List}
use Prim.Native.Nat.{ℕ, ◌+◌, ◌-◌, ◌<◌}
use native.Mathlib.Omega.{arith}
use lib.ListN.{get_or, take}
use Rattle.model.specs.declared.Group.{Group}
use Rattle.model.specs.declared.Constraint.{Constraint}
use Rattle.model.specs.declared.Model.{Model}
use Rattle.model.specs.Lists.{total}
use Rattle.model.specs.Limits.{limits}
use Rattle.model.specs.Model.{table_of, constraints_of}
use Rattle.model.specs.Cnf.{first_variable, first_output, table_variables, difference_count, variable_count}
use Rattle.model.proofs.Lists.{get_or-map-range}
use Rattle.numbering.specs.declared.Numbering.{Numbering}
use Rattle.numbering.specs.Numbering.{first_variables, first_outputs, differences_from, numbering_of}

module _ (m : Model) (v : Numbering) (e : v ≡ numbering_of m) where
  pub first-is : v.first ≡ first_variables (take m.s m.groups)
  unfolding numbering_of table_of
  first-is = ap (λ (x : Numbering). x.first) e

  pub outputs_are : v.outputs ≡ first_outputs (take m.s m.groups)
  unfolding numbering_of table_of
  outputs_are = ap (λ (x : Numbering). x.outputs) e

  pub differences-are : v.differences ≡ differences_from (1 + table_variables (take m.s m.groups)) (take m.s m.groups) (take m.c m.constraints)
  unfolding numbering_of table_of constraints_of
  differences-are = ap (λ (x : Numbering). x.differences) e

  pub variables-is : v.variables ≡ variable_count m
  unfolding numbering_of
  variables-is = ap (λ (x : Numbering). x.variables) e

module _ (t : List Group) (ns : List ℕ) (i : ℕ) (h : i < limits.groups) where
  pub variable-from : ns ≡ first_variables t → get_or ns i 0 ≡ first_variable t (1 + i)
  unfolding first_variables
  variable-from e = ap (λ (l : List ℕ). get_or l i 0) e ∙ get_or-map-range (first_variable t) 1 limits.groups i 0 h

  pub output-from : ns ≡ first_outputs t → get_or ns i 0 ≡ first_output t (1 + i)
  unfolding first_outputs
  output-from e = ap (λ (l : List ℕ). get_or l i 0) e ∙ get_or-map-range (first_output t) 1 limits.groups i 0 h

-- the first X of one constraint
pub difference-from : (base : ℕ) (t : List Group) (cs : List Constraint) (ns : List ℕ) (j : ℕ) → j < limits.constraints → ns ≡ differences_from base t cs
    → get_or ns j 0 ≡ base + total (difference_count t) (take j cs)
unfolding differences_from
difference-from base t cs ns j h e =
    ap (λ (l : List ℕ). get_or l j 0) e
    ∙ get_or-map-range (λ j. base + total (difference_count t) (take (j - 1) cs)) 1 limits.constraints j 0 h
    ∙ ap (λ (i : ℕ). base + total (difference_count t) (take i cs)) {x = 1 + j - 1} {y = j} (omega arith)
