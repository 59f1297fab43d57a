-- `put_bytes` writes where there is room. Assumes nothing.
use mathlib.Core.Path.{sym, ◌∙◌}
use Prim.Native.Nat.{◌+◌}
use lib.ListN.{length}
use borrow.Author.Tests.{leb-false}
use Rattle.text.proofs.Writes.{put, no_room_lem}
use Rattle.text.proofs.put_bytes.Goals as goal

pub returns-then-ends_within : goal.returns-then-ends_within
returns-then-ends_within c =
    let both = put c.write_bytes.ensures in
    record { value = both.0; buf_after = both.1 }

pub returns : goal.returns
returns c =
    let both = no_room_lem c.args.bytes.now c.args.buf.now c.args.at
    (leb-false (c.args.at + length c.args.bytes.now) (length c.args.buf.now) (sym c.ends_within.ensures ∙ c.if-ends_within.false)) in
    record { value = both.0; buf_after = both.1 }
