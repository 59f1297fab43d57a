use mathlib.Core.Path.{ap}
use Prim.Native.Nat.{◌+◌}
use lib.ListN.{length}
use Rattle.cnf.specs.Parts.{unit_text}
use Rattle.text.proofs.Writes.{loop-turn, loop-room, same_text}
use Rattle.cnf.proofs.Trees.{unit-is}
use native.Mathlib.Omega.{arith}
use Rattle.cnf.proofs.totalizer.put_units.Goals as goal

pub put_unit-n-requires : goal.put_unit-n-requires
put_unit-n-requires c = omega (arith, loop-room (unit_text c.args.positive c.args.first) c.args.a c.loop-i.i c.args.k c.loop-i.invariant c.loop-i-test.true c.requires.k_in_bounds, ap length (unit-is c.args.positive c.args.first (c.args.a + c.loop-i.i)))

pub loop-i-preserved : goal.loop-i-preserved
loop-i-preserved c = loop-turn (unit_text c.args.positive c.args.first) c.args.a c.loop-i.i c.loop-i.invariant (same_text (unit-is c.args.positive c.args.first (c.args.a + c.loop-i.i)) c.put_unit-n.ensures)
