-- `put_marks` writes the marks one after the other. Assumes nothing.
use Rattle.std.specs.List.{flat_map}
use Rattle.model.specs.Lists.{range}
use Rattle.model.specs.Text.{field_text}
use Rattle.model.specs.SheetText.{mark_of}
use Rattle.text.specs.Put.{Wrote}
use Rattle.sheet_writer.proofs.put_marks.Given as goal

abbrev pub invariant-loop-e : goal.invariant-loop-e
invariant-loop-e l = Wrote (flat_map (λ i. field_text (mark_of l.g i)) (range 0 l.e)) l.at l.initial.buf l.buf l.k
