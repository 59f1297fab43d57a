-- `copy_out` changes nothing where the text is too long. Assumes nothing.
use native.Mathlib.Omega.{arith}
use Rattle.text.proofs.Writes.{no_room_lem}
use Rattle.answer.proofs.copy_out.Goals as goal

pub returns-then-buf-bytes-clause-buf_after : goal.returns-then-buf-bytes-clause-buf_after
returns-then-buf-bytes-clause-buf_after c = (no_room_lem c.args.bytes.now c.args.buf.now 0 (omega arith)).1
