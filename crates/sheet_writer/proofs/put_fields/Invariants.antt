-- `put_fields` writes one field after the other. Assumes nothing.
use lib.ListN.{take}
use Rattle.std.specs.List.{flat_map}
use Rattle.model.specs.Text.{field_text}
use Rattle.text.specs.Put.{Wrote}
use Rattle.sheet_writer.proofs.put_fields.Given as goal

abbrev pub invariant-loop-v : goal.invariant-loop-v
invariant-loop-v l = Wrote (flat_map field_text (take l.v-index l.fields)) l.at l.initial.buf l.buf l.n
