-- `is_same` compares the first groups of both tables. Assumes nothing.
use Rattle.std.proofs.Common.{◌∙◌, ap₂, arith}
use Rattle.model.specs.Propagate.{same_group, same_table}
use Rattle.table.proofs.Pairs.{alike, pointwise-pairwise, take-first}
use Rattle.table.proofs.is_same.Goals as goal

pub returns : goal.returns
unfolding same_table
returns c =
    c.eq.ensures
    ∙ pointwise-pairwise _ same_group alike _ _
    ∙ ap₂ same_table (take-first c.args.a.now c.args.s c.min-end.result (omega arith)) (take-first c.args.b.now c.args.s c.min-end.result (omega arith))
