use Rattle.std.proofs.Common.{arith}
use Rattle.marks.proofs.Bits.{next-none}
use Rattle.propagate.proofs.Skipping.{groups-begin, groups-go}
use Rattle.propagate.proofs.steps.group_steps.Goals as goal

pub loop-i-init : goal.loop-i-init
loop-i-init c =
    (c.requires.1, groups-begin c.args.s _ _ _ _ _ (next-none _ _ _ c.next-i.ensures).1)

pub loop-i-smaller : goal.loop-i-smaller
loop-i-smaller c = omega (arith, (next-none _ _ _ c.next-i-in-loop-i.ensures).0, c.loop-i-test.true)

pub loop-i-preserved : goal.loop-i-preserved
loop-i-preserved c =
    let l = c.loop-i in
    let p = c.group_step-moved.ensures in
    let n = next-none _ _ _ c.next-i-in-loop-i.ensures in
    (p.seen, groups-go c.args.s _ _ _ _ l.i l.changed _ _ _ l.invariant.1 (omega (arith, c.loop-i-test.true)) _ _ _ _ _ p _ n.0 n.1)
