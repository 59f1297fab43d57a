use mathlib.Core.Path.{ap, ◌∙◌}
use native.Mathlib.Omega.{arith}
use Rattle.model.specs.Close.{assignment_of}
use Rattle.solution.proofs.Values.{counted, compared}
use Rattle.solution.proofs.Trees.{halves, leaf-holds, left-fails, right-fails, own-decides}
use Prim.Native.Nat.{ℕ, ◌+◌}
use Rattle.solution.proofs.group_clauses.+tree_holds.Goals as goal

pub returns-then-m-lt2 : goal.returns-then-m-lt2
returns-then-m-lt2 t c = leaf-holds (assignment_of c.args.values.now) c.args.m c.args.v c.args.o c.if-m-lt2.true

pub tree_holds-requires : goal.tree_holds-requires
tree_holds-requires t c = let n = halves c.args.m c.output_count.result c.output_count-2.result c.requires.0 c.if-m-lt2.false c.output_count.ensures c.output_count-2.ensures in (omega arith, (omega arith, omega arith, omega (arith, n.0, n.1, n.2)))

pub returns-then-not-tree_holds : goal.returns-then-not-tree_holds
returns-then-not-tree_holds t c = let n = halves c.args.m c.output_count.result c.output_count-2.result c.requires.0 c.if-m-lt2.false c.output_count.ensures c.output_count-2.ensures in left-fails (assignment_of c.args.values.now) c.args.m c.args.v c.args.o (c.args.o + c.output_count.result) (c.args.o + c.output_count.result + c.output_count-2.result) c.if-m-lt2.false (ap (λ (k : ℕ). c.args.o + k) n.0) (ap (λ (k : ℕ). c.args.o + c.output_count.result + k) n.1) _ c.tree_holds.ensures c.if-not-tree_holds.true

pub tree_holds-requires-2 : goal.tree_holds-requires-2
tree_holds-requires-2 t c = let n = halves c.args.m c.output_count.result c.output_count-2.result c.requires.0 c.if-m-lt2.false c.output_count.ensures c.output_count-2.ensures in (omega arith, (omega arith, omega arith, omega (arith, n.0, n.1, n.2)))

pub returns-then-not-tree_holds-2 : goal.returns-then-not-tree_holds-2
returns-then-not-tree_holds-2 t c = let n = halves c.args.m c.output_count.result c.output_count-2.result c.requires.0 c.if-m-lt2.false c.output_count.ensures c.output_count-2.ensures in right-fails (assignment_of c.args.values.now) c.args.m c.args.v c.args.o (c.args.o + c.output_count.result) (c.args.o + c.output_count.result + c.output_count-2.result) c.if-m-lt2.false (ap (λ (k : ℕ). c.args.o + k) n.0) (ap (λ (k : ℕ). c.args.o + c.output_count.result + k) n.1) _ c.tree_holds.ensures c.if-not-tree_holds.false _ c.tree_holds-2.ensures c.if-not-tree_holds-2.true

pub counts_to-requires : goal.counts_to-requires
counts_to-requires t c = let n = halves c.args.m c.output_count.result c.output_count-2.result c.requires.0 c.if-m-lt2.false c.output_count.ensures c.output_count-2.ensures in (omega (arith, n.0, n.1, n.2), omega arith)

pub returns : goal.returns
returns t c = let n = halves c.args.m c.output_count.result c.output_count-2.result c.requires.0 c.if-m-lt2.false c.output_count.ensures c.output_count-2.ensures in own-decides (assignment_of c.args.values.now) c.args.m c.args.v c.args.o (c.args.o + c.output_count.result) (c.args.o + c.output_count.result + c.output_count-2.result) c.if-m-lt2.false (ap (λ (k : ℕ). c.args.o + k) n.0) (ap (λ (k : ℕ). c.args.o + c.output_count.result + k) n.1) _ c.tree_holds.ensures c.if-not-tree_holds.false _ c.tree_holds-2.ensures c.if-not-tree_holds-2.false _ (c.true_count-x.ensures ∙ counted (assignment_of c.args.values.now) c.args.v c.args.m) _ (c.counts_to.ensures ∙ compared (assignment_of c.args.values.now) _ c.args.m _)
