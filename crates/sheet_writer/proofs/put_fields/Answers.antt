use native.Mathlib.Omega.{arith}
use Rattle.model.specs.Text.{field_text}
use Rattle.text.proofs.Writes.{wrote}
use Rattle.sheet_writer.proofs.Writes.{turn, room-all}
use Rattle.sheet_writer.proofs.put_fields.Goals as goal

pub loop-v-preserved : goal.loop-v-preserved
loop-v-preserved c =
    let l = c.loop-v in
    let p = c.put_field-n.ensures in
    let h = room-all field_text _ c.args.fields.now l.v-index (omega arith) l.invariant c.requires in
    turn field_text _ c.args.fields.now l.v-index (omega arith) l.invariant (wrote p.value p.buf_after h)
