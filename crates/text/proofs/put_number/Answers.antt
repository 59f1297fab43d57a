-- `put_number` writes where there is room. Assumes nothing.
use mathlib.Core.Path.{sym, ◌∙◌}
use Prim.Native.Nat.{◌+◌}
use lib.ListN.{length}
use borrow.Author.Tests.{leb-false}
use Rattle.model.specs.Text.{decimal}
use Rattle.text.proofs.Writes.{put, no_room_lem}
use Rattle.text.proofs.put_number.Goals as goal

pub returns-then-number_fits : goal.returns-then-number_fits
returns-then-number_fits c =
    let both = put c.write_number.ensures in
    record { value = both.0; buf_after = both.1 }

pub returns : goal.returns
returns c =
    let both = no_room_lem (decimal c.args.v) c.args.buf.now c.args.at
    (leb-false (c.args.at + length (decimal c.args.v)) (length c.args.buf.now) (sym c.number_fits.ensures ∙ c.if-number_fits.false)) in
    record { value = both.0; buf_after = both.1 }
