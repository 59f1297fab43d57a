-- `put_field` writes blanks, then the number. Assumes nothing.
use mathlib.Core.Path.{sym, ap, ◌∙◌}
use mathlib.Core.List.{◌++◌}
use Prim.Native.Nat.{ℕ, ◌+◌, ◌-◌}
use native.Mathlib.Omega.{arith}
use lib.ListN.{length, replicate}
use borrow.Author.Tests.{leb-false}
use Rattle.model.specs.Text.{decimal, field_text}
use Rattle.text.proofs.Numbers.{field-none, field-some, field-length}
use Rattle.text.proofs.Writes.{put, no_room_lem, nothing, then, same_text}
use Rattle.text.proofs.put_field.Goals as goal

pub returns-then-k-gt-COLUMNS : goal.returns-then-k-gt-COLUMNS
returns-then-k-gt-COLUMNS c =
    let both = nothing (field_text c.args.v) c.args.buf.now c.args.at (field-none c.args.v (omega (arith, c.number_length-k.ensures.value, c.if-k-gt-COLUMNS.true))) in
    record { value = both.0; buf_after = both.1 }

pub returns-then-ends_within : goal.returns-then-ends_within
returns-then-ends_within c =
    let k = c.number_length-k in
    let e = field-some c.args.v (omega (arith, k.ensures.value, c.if-k-gt-COLUMNS.false)) in
    let both = put (same_text (ap (λ (n : ℕ). replicate (4 - n) 32 ++ decimal c.args.v) k.ensures.value ∙ sym e) (then c.write_blanks-n.ensures c.write_number.ensures)) in
    record { value = both.0; buf_after = both.1 }

pub returns : goal.returns
returns c =
    let l = field-length c.args.v (omega (arith, c.number_length-k.ensures.value, c.if-k-gt-COLUMNS.false)) in
    let both = no_room_lem (field_text c.args.v) c.args.buf.now c.args.at
    (omega (arith, l, leb-false (c.args.at + 4) (length c.args.buf.now) (sym c.ends_within.ensures ∙ c.if-ends_within.false))) in
    record { value = both.0; buf_after = both.1 }
