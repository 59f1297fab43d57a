use native.Mathlib.Omega.{arith}
use Rattle.answer.proofs.Assignment.{letter, at-start, value_room, value-next, closing-room, all-written}
use Rattle.answer.proofs.put_assignment.Goals as goal

pub loop-i-init : goal.loop-i-init
loop-i-init c = at-start c.args.values.now (letter c.args.values.now c.requires.values_in_bounds c.put_bytes-start.ensures.value c.put_bytes-start.ensures.buf_after)

pub put_value_word-pen-requires : goal.put_value_word-pen-requires
put_value_word-pen-requires c =
    let v = letter c.args.values.now c.requires.values_in_bounds c.put_bytes-start.ensures.value c.put_bytes-start.ensures.buf_after in
    let few = c.requires.values_len_bound in
    record { v_le_variables = (omega arith, c.loop-i.invariant.narrow); v_in_bounds = value_room c.requires.values_in_bounds v c.loop-i.invariant few c.loop-i-test.true }

pub loop-i-preserved : goal.loop-i-preserved
loop-i-preserved c =
    let v = letter c.args.values.now c.requires.values_in_bounds c.put_bytes-start.ensures.value c.put_bytes-start.ensures.buf_after in
    let word = c.put_value_word-pen.ensures in
    value-next c.requires.values_in_bounds v c.loop-i.invariant c.requires.values_len_bound c.loop-i-test.true word.wrote word.column_value

pub put_word-last-requires : goal.put_word-last-requires
put_word-last-requires c =
    let v = letter c.args.values.now c.requires.values_in_bounds c.put_bytes-start.ensures.value c.put_bytes-start.ensures.buf_after in
    record { word_bound = omega (arith, c.loop-i.invariant.narrow); word_in_bounds = closing-room c.requires.values_in_bounds v c.loop-i.invariant c.loop-i-test.false }

pub returns : goal.returns
returns c =
    let v = letter c.args.values.now c.requires.values_in_bounds c.put_bytes-start.ensures.value c.put_bytes-start.ensures.buf_after in
    let end = c.put_bytes.ensures in
    all-written c.requires.values_in_bounds v c.loop-i.invariant c.loop-i-test.false c.put_word-last.ensures.wrote end.value end.buf_after
