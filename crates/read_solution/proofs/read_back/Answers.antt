-- `read_back` clears the values, reads the lines and closes. Assumes nothing.
use mathlib.Core.Path.{◌∙◌}
use Rattle.read_solution.proofs.read_back.Goals as goal

pub returns : goal.returns
returns c =
    let read = c.read_lines-reading.ensures in
    let zeros = c.clear_bytes.ensures in
    record { bytes = read.bytes; closing = c.close.ensures.value ∙ rw (read.reading, read.values, zeros) }
