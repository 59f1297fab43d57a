use Prim.Native.Nat.{◌/◌}
use mathlib.Core.Path.{sym, ◌∙◌}
use native.Mathlib.Nat.{sub-zero}
use lib.ListN.{length}
use Rattle.model.specs.Sheet.{good_field}
use Rattle.line_fault.specs.Fault.{bad_field}
use Rattle.line_fault.proofs.Places.{first_goes}
use Rattle.line_fault.proofs.first_bad.Goals as goal

pub loop-i-init : goal.loop-i-init
unfolding bad_field
loop-i-init c = rw sub-zero

pub loop-i-preserved : goal.loop-i-preserved
loop-i-preserved c = let l = c.args.line.now in first_goes (good_field l) (bad_field l) (length l / 4) c.loop-i.i c.loop-i.invariant c.loop-i-test.true (sym c.is_good.ensures ∙ c.if-not-is_good.false)
