-- `first_tab` goes byte by byte. Invariant: the first tab is the first from i on. Assumes nothing.
use Prim.Native.Nat.{◌-◌}
use mathlib.Core.Path.{◌≡◌}
use lib.ListN.{length}
use Rattle.line_fault.specs.Fault.{first_not, no_tab, tab_at}
use Rattle.line_fault.proofs.first_tab.Given as goal

abbrev pub invariant-loop-i : goal.invariant-loop-i
invariant-loop-i l = tab_at l.line ≡ first_not (no_tab l.line) l.i (length l.line - l.i)
