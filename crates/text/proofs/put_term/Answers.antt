-- `put_term` writes where there is room. Assumes nothing.
use mathlib.Core.Path.{sym, ◌∙◌}
use Prim.Native.Nat.{◌+◌}
use lib.ListN.{length}
use borrow.Author.Tests.{leb-false}
use Rattle.text.specs.Put.{term_text}
use Rattle.text.proofs.Writes.{put, no_room_lem}
use Rattle.text.proofs.put_term.Goals as goal

pub returns-then-term_fits : goal.returns-then-term_fits
returns-then-term_fits c =
    let both = put c.write_term.ensures in
    record { value = both.0; buf_after = both.1 }

pub returns : goal.returns
returns c =
    let both = no_room_lem (term_text c.args.t) c.args.buf.now c.args.at
    (leb-false (c.args.at + length (term_text c.args.t)) (length c.args.buf.now) (sym c.term_fits.ensures ∙ c.if-term_fits.false)) in
    record { value = both.0; buf_after = both.1 }
