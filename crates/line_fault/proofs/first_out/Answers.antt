use Prim.Native.Nat.{◌/◌}
use mathlib.Core.Path.{sym, ◌∙◌}
use native.Mathlib.Omega.{arith}
use lib.ListN.{length}
use Rattle.line_fault.specs.Fault.{in_range, out_field}
use Rattle.line_fault.proofs.Places.{first_goes}
use Rattle.line_fault.proofs.first_out.Goals as goal

pub loop-i-init : goal.loop-i-init
unfolding out_field
loop-i-init c = (omega arith, rw c.first_judged-first.ensures)

pub loop-i-preserved : goal.loop-i-preserved
loop-i-preserved c = (omega arith, first_goes (in_range c.args.h c.args.done c.args.line.now) (out_field c.args.h c.args.done c.args.line.now) (length c.args.line.now / 4) c.loop-i.i c.loop-i.invariant.1 c.loop-i-test.true (sym c.is_in_range.ensures ∙ c.if-not-is_in_range.false))
