use mathlib.Core.List.{[]}
use native.Mathlib.Omega.{arith}
use lib.ListN.{take}
use Rattle.counts.proofs.Settled.{constraints-next}
use Rattle.counts.proofs.sum_constraints.Goals as goal

pub loop-x-preserved : goal.loop-x-preserved
loop-x-preserved c = (
  omega (arith, constraints-next c.args.s c.args.n (take c.args.s c.args.groups.now) (take c.args.c c.args.constraints.now) c.loop-x.x-index record { code = 0; count = 0; groups = [] } (omega arith), c.constraint_length-r.ensures.0, c.loop-x.invariant.0),
  omega (arith, c.constraint_length-r.ensures.1, c.loop-x.invariant.1),
)
