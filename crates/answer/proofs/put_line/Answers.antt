-- `put_line` writes `v`, the values and a newline. Assumes nothing.
use Rattle.text.proofs.Writes.{wrote}
use Rattle.answer.proofs.Values.{letter-room, said-room, line_wrote}
use Rattle.answer.proofs.put_line.Goals as goal

pub put_values-b-requires : goal.put_values-b-requires
put_values-b-requires c = record { values_len_bound = c.requires.values_len_bound; values_in_bounds = said-room c.args.values.now _ c.requires.values_in_bounds (wrote c.put_bytes-a.ensures.value c.put_bytes-a.ensures.buf_after (letter-room c.args.values.now c.args.buf.now c.requires.values_in_bounds)) }

pub returns : goal.returns
returns c =
    line_wrote c.args.values.now _ c.requires.values_in_bounds
    (wrote c.put_bytes-a.ensures.value c.put_bytes-a.ensures.buf_after (letter-room c.args.values.now c.args.buf.now c.requires.values_in_bounds))
    c.put_values-b.ensures c.put_bytes.ensures.value c.put_bytes.ensures.buf_after
