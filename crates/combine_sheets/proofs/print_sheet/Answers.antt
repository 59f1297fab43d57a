-- `print_sheet` hands on no more bytes than were written. What it prints is compared with stored output. Assumes nothing.
use native.Mathlib.Omega.{arith}
use Rattle.std.proofs.Common.{length, ◌≤◌}
use lib.ListN.{length-take}
use Rattle.sheet_writer.proofs.Entry.{within-room}
use Rattle.combine_sheets.proofs.print_sheet.Goals as goal

pub slice_bounds-text-end : goal.slice_bounds-text-end
slice_bounds-text-end c =
    let w = c.write_sheet in
    omega (arith, within-room _ _ _ w.result w.ensures.value c.in-Bytes.is, w.auto.buf)

pub slice_bounds-write-end : goal.slice_bounds-write-end
slice_bounds-write-end c =
    let w = c.write_sheet in
    let inside : c.in-Bytes.n ≤ length w.new.buf = omega (arith, within-room _ _ _ w.result w.ensures.value c.in-Bytes.is, w.auto.buf) in
    omega (arith, length-take c.in-Bytes.n w.new.buf, inside)
