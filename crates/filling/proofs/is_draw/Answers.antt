-- `is_draw` judges the groups, then the constraints. Assumes nothing.
use mathlib.Core.Path.{sym, ap, ◌∙◌}
use mathlib.Core.Bool.{Bool, ◌&&◌}
use native.Mathlib.Omega.{arith}
use lib.ListN.{take}
use Rattle.std.specs.List.{list_all}
use Rattle.model.specs.Model.{table_of, constraints_of}
use Rattle.model.specs.Solution.{constraint_true, is_solution}
use Rattle.propagation_laws.proofs.Ranges.{in_range_lem}
use Rattle.filling.proofs.Draws.{zipped, constraints-are}
use Rattle.filling.proofs.is_draw.Goals as goal

pub returns-then-not-groups_allowed : goal.returns-then-not-groups_allowed
unfolding is_solution table_of constraints_of
returns-then-not-groups_allowed c =
    let m = c.args.m.now in
    let i = in_range_lem m c.requires in
    let l = c.groups_allowed.ensures.lengths in
    let allowed = c.groups_allowed.ensures.value ∙ zipped m.groups c.args.words.now m.s (omega (arith, i.group_count, l.0)) (omega (arith, i.group_count, l.1)) in
    sym (ap (λ (b : Bool). b && list_all (constraint_true (take m.s c.args.words.now)) (constraints_of m)) (sym allowed ∙ c.if-not-groups_allowed.true))

pub returns : goal.returns
unfolding is_solution table_of constraints_of
returns c =
    let m = c.args.m.now in
    let i = in_range_lem m c.requires in
    let l = c.groups_allowed.ensures.lengths in
    let allowed = c.groups_allowed.ensures.value ∙ zipped m.groups c.args.words.now m.s (omega (arith, i.group_count, l.0)) (omega (arith, i.group_count, l.1)) in
    c.constraints_true.ensures ∙ constraints-are m.s c.args.words.now (take m.c m.constraints) i.constraints
    ∙ sym (ap (λ (b : Bool). b && list_all (constraint_true (take m.s c.args.words.now)) (constraints_of m)) (sym allowed ∙ c.if-not-groups_allowed.false))
