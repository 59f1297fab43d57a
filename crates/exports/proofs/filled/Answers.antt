-- `filled`: fewer words than groups are no draw; else the words are those of the array that filling is lent. Assumes nothing.
use mathlib.Core.Path.{refl, ap, ◌∙◌}
use mathlib.Core.List.{List}
use Prim.Native.Nat.{ℕ, ◌≤◌}
use native.Mathlib.Omega.{arith}
use lib.ListN.{length}
use Rattle.model.specs.Fill.{fill_refusal, filled_values}
use Rattle.model.proofs.Arrays.{whole_of}
use Rattle.filling.proofs.Filling.{fill-unsettled, ranged, fill-30}
use Rattle.exports.proofs.Filling.{no-draw, filled-refusal, filled-values}
use Rattle.exports.proofs.filled.Goals as goal

pub returns-then-refusal-ne0 : goal.returns-then-refusal-ne0
returns-then-refusal-ne0 c =
    let w = whole_of c.args.m c.whole.ensures in
    let r = fill-unsettled c.args.m w c.args.groups.now c.args.values.now _ c.unsettled-refusal.ensures c.if-refusal-ne0.true in
    record { value = r.0; values_after = r.1.0 }

pub returns-then-groups-m : goal.returns-then-groups-m
returns-then-groups-m c =
    let w = whole_of c.args.m c.whole.ensures in
    let e = c.unsettled-refusal.ensures in
    let z = c.if-refusal-ne0.false in
    let m = ranged c.args.m w c.args.groups.now c.args.values.now _ e z in
    let n = no-draw c.args.groups.now c.args.m m w c.if-groups-m.true in
    let r = fill-30 c.args.m w c.args.groups.now c.args.values.now _ e z _ refl n in
    record { value = r.0; values_after = r.1.0 }

pub returns : goal.returns
returns c =
    let long : c.args.m.s ≤ length c.args.groups.now = omega (arith, c.if-groups-m.false) in
    let d = c.sets_from-sets.ensures in
    let f = c.fill.ensures in record { value = f.value ∙ ap (λ (x : List ℕ). fill_refusal c.args.m x c.args.values.now) d ∙ filled-refusal c.args.m c.args.groups.now c.args.values.now long; values_after = f.values_after ∙ ap (λ (x : List ℕ). filled_values c.args.m x c.args.values.now) d ∙ filled-values c.args.m c.args.groups.now c.args.values.now long }
