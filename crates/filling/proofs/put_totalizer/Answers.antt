-- `put_totalizer` writes the leaves to an array of its own and the tree over them, or nothing. Assumes nothing.
use mathlib.Core.Path.{sym, ap}
use native.Mathlib.Omega.{arith}
use borrow.Author.Tests.{not-true, not-false}
use lib.ListN.{length}
use Rattle.numbering.proofs.Totalizers.{totalizer-parts}
use Rattle.text.proofs.Writes.{done, same_text}
use Rattle.filling.proofs.Values.{variables-few, no-totalizer, leaves-tree}
use Rattle.filling.proofs.put_totalizer.Goals as goal

pub returns-then-not-t : goal.returns-then-not-t
returns-then-not-t c =
    let t = c.totalizer_of-t in
    same_text (sym (no-totalizer c.args.n c.args.g.now c.args.w _ (totalizer-parts c.args.g.now t.result t.ensures.value).3 (not-true _ c.if-not-t.true)))
    (done c.args.at _ (omega (arith, c.requires.w_in_bounds)))

pub put_variables-m-requires-clause-w_in_bounds : goal.put_variables-m-requires-clause-w_in_bounds
put_variables-m-requires-clause-w_in_bounds c = omega (arith, variables-few c.args.n c.args.g.now c.args.w, c.requires.n_le_entrants)

pub put_tree-requires : goal.put_tree-requires
put_tree-requires c =
    let t = c.totalizer_of-t in
    let v = c.put_variables-m.ensures in
    let tree =
    leaves-tree c.args.n c.args.g.now c.args.w v _ (totalizer-parts c.args.g.now t.result t.ensures.value).3 (not-false _ c.if-not-t.false) in
    omega (arith, c.requires.w_in_bounds, ap length tree)

pub returns : goal.returns
returns c =
    let t = c.totalizer_of-t in
    let v = c.put_variables-m.ensures in
    same_text
    (leaves-tree c.args.n c.args.g.now c.args.w v _ (totalizer-parts c.args.g.now t.result t.ensures.value).3 (not-false _ c.if-not-t.false))
    c.put_tree.ensures
