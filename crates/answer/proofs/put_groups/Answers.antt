use native.Mathlib.Omega.{arith}
use Rattle.text.proofs.Writes.{turn, room}
use Rattle.answer.specs.Groups.{group_at}
use Rattle.answer.proofs.put_groups.Goals as goal

pub put_group-n-requires : goal.put_group-n-requires
put_group-n-requires c = room (group_at c.args.words.now) c.loop-i.i c.args.k c.loop-i.invariant c.loop-i-test.true (omega (arith, c.requires.k_in_bounds))

pub loop-i-preserved : goal.loop-i-preserved
loop-i-preserved c = turn (group_at c.args.words.now) c.loop-i.i c.loop-i.invariant c.put_group-n.ensures
