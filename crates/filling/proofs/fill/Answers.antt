-- `fill` is the definition's answer: each refusal by its test, in order, then the values. Assumes nothing.
use native.Mathlib.Omega.{arith}
use Rattle.model.specs.Model.{constraints_of}
use Rattle.model.proofs.Arrays.{whole_of}
use Rattle.numbering.proofs.Models.{variables-is}
use Rattle.propagation_laws.proofs.Ranges.{in_range_lem}
use Rattle.text.proofs.Writes.{kept}
use Rattle.filling.proofs.Filling.{ranged, fill-unsettled, fill-30, fill-26, all-length, fill-0}
use Rattle.filling.proofs.fill.Goals as goal

-- the clauses by their names
named : {A B C : Type 0} → A × (B × C) → record { value : A; values_after : B; round_trips : C }
named p = record { value = p.0; values_after = p.1.0; round_trips = p.1.1 }

pub returns-then-refusal-ne0 : goal.returns-then-refusal-ne0
returns-then-refusal-ne0 c =
    let s = whole_of c.args.m c.whole.ensures in
    let e = c.unsettled-refusal.ensures in
    named (fill-unsettled c.args.m s c.args.words.now c.args.values.now _ e c.if-refusal-ne0.true)

pub is_draw-requires : goal.is_draw-requires
is_draw-requires c =
    let s = whole_of c.args.m c.whole.ensures in
    let e = c.unsettled-refusal.ensures in
    ranged c.args.m s c.args.words.now c.args.values.now _ e c.if-refusal-ne0.false

pub returns-then-not-is_draw : goal.returns-then-not-is_draw
returns-then-not-is_draw c =
    let s = whole_of c.args.m c.whole.ensures in
    let e = c.unsettled-refusal.ensures in
    named (fill-30 c.args.m s c.args.words.now c.args.values.now _ e c.if-refusal-ne0.false _ c.is_draw.ensures c.if-not-is_draw.true)

pub returns-then-values-v : goal.returns-then-values-v
returns-then-values-v c =
    let s = whole_of c.args.m c.whole.ensures in
    let e = c.unsettled-refusal.ensures in
    named (fill-26 c.args.m s c.args.words.now c.args.values.now _ e c.if-refusal-ne0.false _ c.is_draw.ensures c.if-not-is_draw.false _
    (variables-is c.args.m _ c.of_model-v.ensures) (λ e. omega arith))

pub put_all_variables-k-requires : goal.put_all_variables-k-requires
put_all_variables-k-requires c =
    let s = whole_of c.args.m c.whole.ensures in
    let e = c.unsettled-refusal.ensures in
    let z = c.if-refusal-ne0.false in
    let i = in_range_lem c.args.m (ranged c.args.m s c.args.words.now c.args.values.now _ e z) in
    let all =
    all-length c.args.m s c.args.words.now c.args.values.now _ e z _ c.is_draw.ensures c.if-not-is_draw.false _
    (variables-is c.args.m _ c.of_model-v.ensures) (omega arith) in
    record { n_le_entrants = (i.entrants, i.group_count); words_in_bounds = omega (arith, all) }

pub put_all_totalizers-j-requires : goal.put_all_totalizers-j-requires
put_all_totalizers-j-requires c =
    let s = whole_of c.args.m c.whole.ensures in
    let e = c.unsettled-refusal.ensures in
    let z = c.if-refusal-ne0.false in
    let i = in_range_lem c.args.m (ranged c.args.m s c.args.words.now c.args.values.now _ e z) in
    let w = c.put_all_variables-k.ensures in
    let all =
    all-length c.args.m s c.args.words.now c.args.values.now _ e z _ c.is_draw.ensures c.if-not-is_draw.false _
    (variables-is c.args.m _ c.of_model-v.ensures) (omega arith) in
    record { n_le_entrants = (i.entrants, i.group_count); words_in_bounds = omega (arith, all, w.next, kept w) }

pub put_all_differences-requires : goal.put_all_differences-requires
unfolding constraints_of
put_all_differences-requires c =
    let s = whole_of c.args.m c.whole.ensures in
    let e = c.unsettled-refusal.ensures in
    let z = c.if-refusal-ne0.false in
    let i = in_range_lem c.args.m (ranged c.args.m s c.args.words.now c.args.values.now _ e z) in
    let v = c.put_all_variables-k.ensures in
    let w = c.put_all_totalizers-j.ensures in
    let all =
    all-length c.args.m s c.args.words.now c.args.values.now _ e z _ c.is_draw.ensures c.if-not-is_draw.false _
    (variables-is c.args.m _ c.of_model-v.ensures) (omega arith) in
    record { n_le_entrants = (i.entrants, i.constraint_count, i.group_count); t = (i.constraints, s.members); constraints_in_bounds = omega (arith, all, v.next, kept v, w.next, kept w) }

pub returns : goal.returns
returns c =
    let s = whole_of c.args.m c.whole.ensures in
    named (fill-0 c.args.m s c.args.words.now c.args.values.now _ c.unsettled-refusal.ensures c.if-refusal-ne0.false _ c.is_draw.ensures c.if-not-is_draw.false _
    (variables-is c.args.m _ c.of_model-v.ensures) (omega arith) c.put_all_variables-k.ensures c.put_all_totalizers-j.ensures c.put_all_differences.ensures)
