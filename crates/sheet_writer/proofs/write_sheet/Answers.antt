-- `write_sheet` judges the range, then the room, then writes. Assumes nothing.
use mathlib.Core.Path.{◌≡◌, sym, ◌∙◌}
use mathlib.Core.Bool.{Bool, true, false, not}
use native.Mathlib.Omega.{arith}
use borrow.Author.Tests.{not-false}
use Rattle.sheet_writer.proofs.Entry.{out_of_range, too_short, written}
use Rattle.sheet_writer.proofs.write_sheet.Goals as goal

inside : {r t : Bool} → r ≡ t → not r ≡ false → t ≡ true
inside {r} e f = sym e ∙ not-false r f

-- the clauses by their names
named : {A B C : Type 0} → A × (B × C) → record { value : A; buf_after : B; result_value : C }
named p = record { value = p.0; buf_after = p.1.0; result_value = p.1.1 }

pub returns-then-not-in_range : goal.returns-then-not-in_range
returns-then-not-in_range c =
    let both = out_of_range c.args.m c.args.buf.now (sym c.in_range.ensures ∙ c.if-not-in_range.true) in
    record { value = both.0; buf_after = both.1.0; result_value = both.1.1 }

pub returns-then-buf-sheet_length : goal.returns-then-buf-sheet_length
returns-then-buf-sheet_length c =
    let both = too_short c.args.m c.args.buf.now (inside c.in_range.ensures c.if-not-in_range.false-raw) (omega (arith, c.if-buf-sheet_length.true, c.sheet_length.ensures)) in
    record { value = both.0; buf_after = both.1.0; result_value = both.1.1 }

pub returns : goal.returns
returns c = named (written c.args.m c.args.buf.now (inside c.in_range.ensures c.if-not-in_range.false-raw) _ _ c.put_sheet.ensures)
