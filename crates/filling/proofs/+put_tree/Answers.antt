use mathlib.Core.Path.{refl, sym, ap, ◌∙◌}
use lib.ListN.{length}
use Rattle.text.proofs.Writes.{done, kept, then, same_text}
use Rattle.filling.proofs.Values.{count-is, leaf-tree, pair_tree, left-length, right-length, tree-parts, tree_length}
use native.Mathlib.Omega.{arith}
use Rattle.filling.proofs.+put_tree.Goals as goal

pub returns-then-m-lt2 : goal.returns-then-m-lt2
returns-then-m-lt2 t c = same_text (sym (leaf-tree c.args.leaves.now _ refl c.if-m-lt2.true)) (done _ _ (omega (arith, c.requires)))

pub put_outputs-requires : goal.put_outputs-requires
put_outputs-requires t c =
    omega (arith, c.requires, ap length (pair_tree c.args.leaves.now _ refl c.if-m-eq2.true _ (c.true_count.ensures ∙ count-is c.args.leaves.now)))

pub returns-then-m-eq2 : goal.returns-then-m-eq2
returns-then-m-eq2 t c =
    same_text (sym (pair_tree c.args.leaves.now _ refl c.if-m-eq2.true _ (c.true_count.ensures ∙ count-is c.args.leaves.now))) c.put_outputs.ensures

pub put_tree-x-requires : goal.put_tree-x-requires
put_tree-x-requires t c =
    let ls = c.args.leaves.now in
    (omega (arith, left-length ls _ refl), omega (arith, c.requires, tree_length ls _ refl c.if-m-lt2.false _ refl))

pub put_tree-y-requires : goal.put_tree-y-requires
put_tree-y-requires t c =
    let ls = c.args.leaves.now in
    let w = c.put_tree-x.ensures in
    (omega (arith, right-length ls _ refl), omega (arith, c.requires, tree_length ls _ refl c.if-m-lt2.false _ refl, w.next, kept w))

pub put_outputs-requires-2 : goal.put_outputs-requires-2
put_outputs-requires-2 t c =
    let ls = c.args.leaves.now in
    let w = then c.put_tree-x.ensures c.put_tree-y.ensures in
    omega (arith, c.requires, tree_length ls _ refl c.if-m-lt2.false _ (c.true_count-2.ensures ∙ count-is c.args.leaves.now), c.put_tree-x.ensures.next, c.put_tree-y.ensures.next, kept w)

pub returns : goal.returns
returns t c =
    same_text (sym (tree-parts c.args.leaves.now _ refl c.if-m-lt2.false _ (c.true_count-2.ensures ∙ count-is c.args.leaves.now)))
    (then (then c.put_tree-x.ensures c.put_tree-y.ensures) c.put_outputs-2.ensures)
