-- `four_of` has the four bytes. Assumes nothing.
use Rattle.line_fault.specs.Fault.{four_of}
use Rattle.line_fault.proofs.four_of.Goals as goal

pub returns : goal.returns
unfolding four_of
returns c = rw (← c.byte.ensures, ← c.byte-2.ensures, ← c.byte-3.ensures, ← c.byte-4.ensures)
