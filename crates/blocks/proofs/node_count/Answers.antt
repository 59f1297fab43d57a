-- `node_count` is the number of a group's blocks. Assumes nothing.
use mathlib.Core.Path.{sym, ◌∙◌}
use native.Mathlib.Omega.{arith}
use borrow.Author.Tests.{not-true, not-false}
use Rattle.numbering.proofs.Totalizers.{totalizer-parts}
use Rattle.blocks.proofs.Groups.{none-nodes, some-nodes}
use Rattle.blocks.proofs.node_count.Goals as goal

pub returns-then-not-t : goal.returns-then-not-t
returns-then-not-t c =
    let g = c.args.g in
    let p = totalizer-parts g _ c.totalizer_of-t.ensures.value in
    (sym (none-nodes g (sym p.3 ∙ not-true _ c.if-not-t.true)), omega arith)

pub returns : goal.returns
returns c =
    let g = c.args.g in
    let p = totalizer-parts g _ c.totalizer_of-t.ensures.value in
    (omega (arith, some-nodes g (sym p.3 ∙ not-false _ c.if-not-t.false), p.0), omega (arith, c.totalizer_of-t.ensures.size_le_word))
