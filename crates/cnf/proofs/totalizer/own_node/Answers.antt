-- `own_node` is the last node of a tree. Assumes nothing.
use mathlib.Core.Path.{ap, ◌∙◌}
use Prim.Native.Nat.{ℕ, ◌+◌, ◌-◌, ◌/◌}
use native.Mathlib.Omega.{arith}
use Rattle.encoding_laws.proofs.Counts.{output-count-step}
use Rattle.numbering.proofs.Totalizers.{within_word}
use Rattle.cnf.proofs.Trees.{root_is, small, root_by, root-room, root-more}
use Rattle.cnf.proofs.totalizer.own_node.Goals as goal

pub overflow_add-p : goal.overflow_add-p
overflow_add-p c = let m = c.args.m in omega (arith, output-count-step m (omega arith), c.output_count.ensures ∙ within_word (m / 2) (omega arith))

pub overflow_add-n : goal.overflow_add-n
overflow_add-n c =
    let m = c.args.m in
    omega (arith, output-count-step m (omega arith), c.output_count.ensures ∙ within_word (m / 2) (omega arith), c.output_count-2.ensures ∙ within_word (m - m / 2) (omega arith))

pub root-c-requires : goal.root-c-requires
root-c-requires c =
    let hp = ap (λ (x : ℕ). c.args.o + x) (c.output_count.ensures ∙ within_word (c.args.m / 2) (omega arith)) in
    root-room (c.args.m / 2) c.args.v c.args.o _ hp

pub root-d-requires : goal.root-d-requires
root-d-requires c =
    let p = c.args.o + c.output_count.result in
    let hn = ap (λ (x : ℕ). p + x) (c.output_count-2.ensures ∙ within_word (c.args.m - c.args.m / 2) (omega arith)) in
    root-room (c.args.m - c.args.m / 2) (c.args.v + c.args.m / 2) p _ hn

pub returns : goal.returns
returns c =
    let m = c.args.m in
    let p = c.args.o + c.output_count.result in
    let hp = ap (λ (x : ℕ). c.args.o + x) (c.output_count.ensures ∙ within_word (m / 2) (omega arith)) in
    let hn = ap (λ (x : ℕ). p + x) (c.output_count-2.ensures ∙ within_word (m - m / 2) (omega arith)) in
    let hc = root_by (m / 2) c.args.v c.args.o p _ hp c.root-c.ensures.0 c.root-c.ensures.1 in
    let hd = root_by (m - m / 2) (c.args.v + m / 2) p (p + c.output_count-2.result) _ hn c.root-d.ensures.0 c.root-d.ensures.1 in (
      root_is m c.args.v c.args.o p _ _ _ (omega arith) hp hn hc hd (m - 2) (omega arith),
      small m c.args.v c.args.o p _ _ _ (omega arith) hp hn hc hd (omega arith) (omega arith),
      omega (arith, hp, hn, output-count-step m (omega arith), root-more m c.args.v c.args.o (omega arith)),
    )
