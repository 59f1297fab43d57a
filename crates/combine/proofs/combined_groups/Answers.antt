use mathlib.Core.Path.{refl}
use native.Mathlib.Omega.{arith}
use Rattle.model.specs.Limits.{limits}
use Rattle.model.specs.Model.{zero_group}
use Rattle.combine.proofs.Groups.{group-stored}
use Rattle.combine.proofs.combined_groups.Goals as goal

pub loop-i-init : goal.loop-i-init
unfolding zero_group
loop-i-init c = refl

pub loop-i-preserved : goal.loop-i-preserved
unfolding zero_group
loop-i-preserved c =
    group-stored c.args.a.now c.args.b.now c.loop-i.groups limits.groups c.loop-i.i c.combined_group.result (omega arith) (omega arith) (omega arith)
    c.loop-i.invariant c.combined_group.ensures
