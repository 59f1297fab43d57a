use native.Mathlib.Omega.{arith}
use lib.ListN.{take}
use Rattle.model.specs.Model.{zero_group}
use Rattle.counts.proofs.Groups.{count_next}
use Rattle.counts.proofs.sum_groups.Goals as goal

pub loop-g-preserved : goal.loop-g-preserved
unfolding zero_group
loop-g-preserved c = (
  omega (arith, count_next (take c.args.s c.args.groups.now) c.loop-g.g-index (omega arith), c.group_count-r.ensures.0, c.loop-g.invariant.0),
  omega (arith, c.group_count-r.ensures.1, c.loop-g.invariant.1),
)
