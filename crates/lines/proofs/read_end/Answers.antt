-- `read_end` reads a line that is whole, and judges a longer one by its first byte. Assumes nothing.
use Rattle.lines.specs.Cut.{line_end, values_at_end}
use Rattle.lines.proofs.read_end.Goals as goal

pub returns-then-cut : goal.returns-then-cut
unfolding line_end values_at_end
returns-then-cut c =
    let long = c.if-cut.true in
    record { value = rw (long, c.line_start.ensures, c.next.ensures, c.too_long.ensures); values_after = rw long }

pub returns : goal.returns
unfolding line_end values_at_end
returns c =
    let whole = c.if-cut.false in
    let read = c.read_line-r.ensures in
    record { value = rw (whole, c.line_start-2.ensures, c.next-2.ensures, read.value); values_after = rw whole read.values_after }
