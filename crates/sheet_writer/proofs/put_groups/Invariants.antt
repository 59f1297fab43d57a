-- `put_groups` writes the groups' lines one after the other. Assumes nothing.
use lib.ListN.{take}
use Rattle.std.specs.List.{flat_map}
use Rattle.model.specs.Lists.{range}
use Rattle.text.specs.Put.{Wrote}
use Rattle.sheet_writer.specs.Parts.{group_text}
use Rattle.sheet_writer.proofs.put_groups.Given as goal

abbrev pub invariant-loop-i : goal.invariant-loop-i
invariant-loop-i l = Wrote (flat_map (group_text l.n (take l.s l.groups)) (range 1 l.i)) l.at l.initial.buf l.buf l.k
