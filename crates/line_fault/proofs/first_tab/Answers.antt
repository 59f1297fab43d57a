use native.Mathlib.Nat.{sub-zero}
use Rattle.line_fault.specs.Fault.{tab_at}
use Rattle.line_fault.proofs.first_tab.Goals as goal

pub loop-i-init : goal.loop-i-init
unfolding tab_at
loop-i-init c = rw sub-zero
