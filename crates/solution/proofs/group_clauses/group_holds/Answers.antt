-- `group_holds` looks at the limits, then at the tree. Assumes nothing.
use Rattle.solution.proofs.Groups.{too_few, too_many_lem, no-tree, tree-decides}
use Rattle.model.specs.Limits.{limits}
use Rattle.encoding_laws.proofs.Bounds.{outputs_mono}
use Rattle.numbering.proofs.Totalizers.{totalizer-parts, outputs-few}
use Rattle.model.specs.Close.{assignment_of}
use borrow.Author.Tests.{not-true, not-false}
use native.Mathlib.Omega.{arith}
use mathlib.Core.Path.{sym, ◌∙◌}
use Rattle.solution.proofs.group_clauses.group_holds.Goals as goal

pub returns-then-count-g : goal.returns-then-count-g
returns-then-count-g c = too_few (assignment_of c.args.values.now) c.args.g.now c.args.w c.args.v c.args.o c.if-count-g.true

pub returns-then-g-count : goal.returns-then-g-count
returns-then-g-count c = too_many_lem (assignment_of c.args.values.now) c.args.g.now c.args.w c.args.v c.args.o c.if-count-g.false c.if-g-count.true

pub returns-then-not-t : goal.returns-then-not-t
returns-then-not-t c = no-tree (assignment_of c.args.values.now) c.args.g.now c.args.w c.args.v c.args.o c.if-count-g.false c.if-g-count.false (sym (totalizer-parts c.args.g.now c.totalizer_of-t.result c.totalizer_of-t.ensures.value).3 ∙ not-true _ c.if-not-t.true)

pub tree_holds-requires : goal.tree_holds-requires
tree_holds-requires c = let k = c.totalizer_of-t.ensures.size_le_word in (omega arith, omega arith, omega (arith, outputs_mono c.totalizer_of-t.result.size limits.word c.totalizer_of-t.ensures.size_le_word, outputs-few))

pub returns : goal.returns
returns c = let p = totalizer-parts c.args.g.now c.totalizer_of-t.result c.totalizer_of-t.ensures.value in tree-decides (assignment_of c.args.values.now) c.args.g.now c.args.w c.args.v c.args.o c.if-count-g.false c.if-g-count.false (sym p.3 ∙ not-false _ c.if-not-t.false) c.totalizer_of-t.result.size p.0 _ c.tree_holds.ensures
