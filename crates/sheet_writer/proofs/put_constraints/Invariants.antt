-- `put_constraints` writes the constraints' lines one after the other. Assumes nothing.
use lib.ListN.{take}
use Rattle.std.specs.List.{flat_map}
use Rattle.text.specs.Put.{Wrote}
use Rattle.sheet_writer.specs.Parts.{constraint_text}
use Rattle.sheet_writer.proofs.put_constraints.Given as goal

abbrev pub invariant-loop-x : goal.invariant-loop-x
invariant-loop-x l = Wrote (flat_map constraint_text (take l.x-index (take l.c l.constraints))) l.at l.initial.buf l.buf l.k
