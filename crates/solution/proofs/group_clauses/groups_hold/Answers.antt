use mathlib.Core.Path.{◌∙◌}
use native.Mathlib.Omega.{arith}
use lib.ListN.{take}
use Rattle.model.specs.Model.{zero_group}
use Rattle.model.specs.Close.{assignment_of}
use Rattle.numbering.proofs.Models.{variable-from, output-from}
use Rattle.solution.proofs.Groups.{group-is, holds_at, rest-stops, rest_goes}
use Rattle.solution.proofs.group_clauses.groups_hold.Goals as goal

pub returns-then-not-group_holds : goal.returns-then-not-group_holds
unfolding zero_group
returns-then-not-group_holds c =
    let i = c.loop-i.i in
    let a = assignment_of c.args.values.now in
    let t = take c.args.s c.args.groups.now in
    let v = c.wide-v.ensures.0 ∙ variable-from t c.args.first.now i (omega arith) c.requires.first_value.0 in
    let o = c.wide-o.ensures.0 ∙ output-from t c.args.outputs.now i (omega arith) c.requires.first_value.1 in
    let h = holds_at a t c.args.words.now i _ _ _ _ (group-is c.args.groups.now c.args.s i (omega arith)) v o c.group_holds.ensures in
    rest-stops a t c.args.words.now c.args.s i c.loop-i.invariant _ h (omega arith) c.if-not-group_holds.true

pub loop-i-preserved : goal.loop-i-preserved
unfolding zero_group
loop-i-preserved c =
    let i = c.loop-i.i in
    let a = assignment_of c.args.values.now in
    let t = take c.args.s c.args.groups.now in
    let v = c.wide-v.ensures.0 ∙ variable-from t c.args.first.now i (omega arith) c.requires.first_value.0 in
    let o = c.wide-o.ensures.0 ∙ output-from t c.args.outputs.now i (omega arith) c.requires.first_value.1 in
    let h = holds_at a t c.args.words.now i _ _ _ _ (group-is c.args.groups.now c.args.s i (omega arith)) v o c.group_holds.ensures in
    rest_goes a t c.args.words.now c.args.s i c.loop-i.invariant _ h (omega arith) c.if-not-group_holds.false
