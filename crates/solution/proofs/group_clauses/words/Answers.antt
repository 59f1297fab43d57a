use mathlib.Core.Path.{refl, ◌∙◌}
use native.Mathlib.Omega.{arith}
use lib.ListN.{take}
use Rattle.model.specs.Model.{zero_group}
use Rattle.model.specs.Close.{assignment_of}
use Rattle.solution.specs.Holds.{table_words}
use Rattle.numbering.proofs.Models.{variable-from}
use Rattle.solution.proofs.Groups.{group-is, word-at, words-next}
use Rattle.solution.proofs.group_clauses.words.Goals as goal

pub loop-i-init : goal.loop-i-init
unfolding table_words
loop-i-init c = refl

pub loop-i-preserved : goal.loop-i-preserved
unfolding zero_group
loop-i-preserved c =
    let i = c.loop-i.i in
    let a = assignment_of c.args.values.now in
    let t = take c.args.s c.args.groups.now in
    let v = c.wide-v.ensures.0 ∙ variable-from t c.args.first.now i (omega arith) c.requires.first_value in
    let x = word-at c.args.n a t i _ _ _ (group-is c.args.groups.now c.args.s i (omega arith)) v c.word_of.ensures in
    words-next c.args.n a t c.loop-i.r i _ c.loop-i.invariant (omega arith) x
