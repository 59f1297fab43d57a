-- `put_group` writes blocks of a group as those of its tree. Assumes nothing.
use mathlib.Core.Path.{sym, ap, ◌∙◌}
use Prim.Native.Nat.{ℕ, ◌+◌, ◌-◌}
use native.Mathlib.Omega.{arith}
use Rattle.numbering.proofs.Totalizers.{totalizer-parts}
use Rattle.cnf.specs.Parts.{tree_text, group_block_text}
use Rattle.cnf.proofs.Groups.{node-asks, units-ask, tree-text, nodes-are, tree-longer}
use Rattle.cnf.proofs.Fits.{ran-same}
use Rattle.cnf.proofs.put_group.Goals as goal

pub overflow_sub-t : goal.overflow_sub-t
overflow_sub-t c =
    let p = c.requires in
    let n = node-asks c.args.g c.totalizer_of-t.result c.totalizer_of-t.ensures.value c.args.v c.args.o (c.args.x - c.args.first) p.settled_among.2 p.among.0 p.among.1 in
    omega (arith, n.0)

pub put_tree-p-requires : goal.put_tree-p-requires
put_tree-p-requires c =
    let p = c.requires in
    let t = c.totalizer_of-t.result in
    let e = c.totalizer_of-t.ensures.value in
    let n = node-asks c.args.g t e c.args.v c.args.o (c.args.x - c.args.first) p.settled_among.2 p.among.0 p.among.1 in
    let z = (totalizer-parts c.args.g t e).0 in
    record { le_m = (omega (arith, n.0), c.totalizer_of-t.ensures.size_le_word, n.1, n.2); low_le_m = units-ask c.args.g t e p.settled_among.0; first_le_x = (p.settled_among.1, (omega (arith, c.min-e.ensures)), omega (arith, z, p.g_bound.0), p.g_bound.1); no_longer = (tree-longer c.args.g t e _ c.args.v c.args.o (c.args.x - c.args.first) p.settled_among.2 c.most_bytes-most.ensures.0 p.none_longer, c.most_bytes-most.ensures.1) }

pub returns : goal.returns
returns c =
    let p = c.requires in
    let t = c.totalizer_of-t.result in
    let e = c.totalizer_of-t.ensures.value in
    let n = nodes-are c.args.g t e (c.args.x - c.args.first) p.settled_among.2 in record {
      end_value = (c.min-e.ensures ∙ omega arith) ∙ ap (λ (k : ℕ). c.args.end - (c.args.end - (c.args.first + k))) (sym n);
      ran = ran-same (λ i. tree_text t.size c.args.v c.args.o t.low t.high (i - c.args.first)) (λ i. group_block_text c.args.g c.args.v c.args.o (i - c.args.first))
          (λ i g h. tree-text c.args.g t e c.args.v c.args.o (i - c.args.first)) c.put_tree-p.ensures;
    }
