use mathlib.Core.Path.{refl, ap, ◌∙◌}
use Prim.Native.Nat.{ℕ, ◌+◌}
use native.Mathlib.Omega.{arith}
use lib.ListN.{take, length-set}
use Rattle.model.specs.Limits.{limits}
use Rattle.model.specs.Model.{zero_group}
use Rattle.encoding_laws.specs.Division.{nodes_of, first_block}
use Rattle.blocks.specs.Blocks.{first_blocks}
use Rattle.numbering.proofs.Arrays.{fill-numbers, filled-numbers, total-step, total-whole}
use Rattle.blocks.proofs.Groups.{block_at}
use Rattle.blocks.proofs.of_groups.Goals as goal

pub loop-i-preserved : goal.loop-i-preserved
unfolding zero_group
loop-i-preserved c =
    let i = c.loop-i.i in
    let inv = c.loop-i.invariant in
    let t = total-step nodes_of c.args.groups.now c.args.s i zero_group (omega arith) _ refl in (
      simp length-set inv.0,
      fill-numbers limits.groups (first_block (take c.args.s c.args.groups.now)) _ i _ (omega arith) inv.0 inv.1 (block_at (take c.args.s c.args.groups.now) i _ inv.2),
      omega (arith, t, inv.2, c.nodes_where-lines.ensures.0),
      omega (arith, c.nodes_where-lines.ensures.1, inv.3),
    )

pub returns : goal.returns
unfolding first_blocks
returns c =
    let i = c.loop-i.i in
    let inv = c.loop-i.invariant in (
      filled-numbers limits.groups (first_block (take c.args.s c.args.groups.now)) _ i (omega arith) inv.0 inv.1,
      inv.2 ∙ ap (λ (k : ℕ). 1 + k) (total-whole nodes_of c.args.groups.now c.args.s i zero_group (omega arith)),
      omega (arith, inv.3),
    )
