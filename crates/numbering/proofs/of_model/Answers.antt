-- `of_model` is the numbering of a model. Assumes nothing.
use mathlib.Core.Path.{◌≡◌}
use mathlib.Core.List.{List}
use Prim.Native.Nat.{ℕ, ◌+◌, ◌-◌}
use Rattle.std.proofs.Common.{rules, arith}
use lib.ListN.{take}
use Rattle.model.specs.declared.Model.{Model}
use Rattle.model.specs.Lists.{total}
use Rattle.model.specs.Limits.{limits}
use Rattle.model.specs.Model.{table_of, constraints_of}
use Rattle.model.specs.Cnf.{open_count, outputs_of, first_variable, first_output, table_variables, difference_count, variable_count}
use Rattle.numbering.specs.declared.Numbering.{Numbering}
use Rattle.numbering.specs.Numbering.{numbers_from, first_variables, first_outputs, differences_from, numbering_of}
use Rattle.numbering.proofs.of_model.Goals as goal

-- V is one less than the next free number
numbered : (m : Model) (vs os xs : List ℕ) (v o x : ℕ)
    → (vs ≡ numbers_from open_count limits.groups 1 (take m.s m.groups)) × (v ≡ 1 + total open_count (take m.s m.groups))
    → (os ≡ numbers_from outputs_of limits.groups v (take m.s m.groups)) × (o ≡ v + total outputs_of (take m.s m.groups))
    → (xs ≡ numbers_from (difference_count (take m.s m.groups)) limits.constraints o (take m.c m.constraints))
    × (x ≡ o + total (difference_count (take m.s m.groups)) (take m.c m.constraints))
    → ◌≡◌ {A = Numbering} (record { first = vs; outputs = os; differences = xs; variables = x - 1 }) (numbering_of m)
unfolding numbering_of table_of constraints_of variable_count table_variables first_variables first_variable first_outputs first_output differences_from
numbered m vs os xs v o x p q r =
    let a = total open_count (take m.s m.groups) in
    let b = total outputs_of (take m.s m.groups) in
    let e : x - 1 ≡ a + b + total (difference_count (take m.s m.groups)) (take m.c m.constraints) = omega (arith, p.1, q.1, r.1) in
    let f : o ≡ 1 + (a + b) = omega (arith, p.1, q.1) in
    rw (p.0, q.0, r.0, e, f, p.1)

pub overflow_sub-result : goal.overflow_sub-result
overflow_sub-result c =
    let v = c.number_all-v.ensures.numbers open_count (λ x r h. search rules) in
    let o = c.number_all-o.ensures.numbers outputs_of (λ x r h. search rules) in
    let x = c.number_all-x.ensures.numbers (difference_count (take c.args.m.s c.args.m.groups)) (λ x r h. search rules) in
    omega (arith, v.1, o.1, x.1)

pub returns : goal.returns
returns c =
    numbered c.args.m _ _ _ _ _ _ (c.number_all-v.ensures.numbers open_count (λ x r h. search rules))
    (c.number_all-o.ensures.numbers outputs_of (λ x r h. search rules))
    (c.number_all-x.ensures.numbers (difference_count (take c.args.m.s c.args.m.groups)) (λ x r h. search rules))
