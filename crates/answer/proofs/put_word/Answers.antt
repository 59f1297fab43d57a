-- `put_word` writes the word, and a newline and `v` before it where the line has no room. Assumes nothing.
use mathlib.Core.Path.{sym}
use native.Mathlib.Omega.{arith}
use Rattle.text.proofs.Writes.{wrote, same_text}
use Rattle.answer.proofs.Writing.{then-put}
use Rattle.answer.proofs.Assignment.{word_fits, word-breaks}
use Rattle.answer.proofs.put_word.Goals as goal

pub returns-then-pen-word-le-COLUMNS : goal.returns-then-pen-word-le-COLUMNS
returns-then-pen-word-le-COLUMNS c =
    let fit = word_fits c.args.pen.column c.args.word.now c.if-pen-word-le-COLUMNS.true in
    let put = c.put_bytes-a.ensures in
    record { wrote = same_text (sym fit.0) (wrote put.value put.buf_after (rw fit.0 at c.requires.word_in_bounds)); column_value = sym fit.1 }

pub returns : goal.returns
returns c =
    let fit = word-breaks c.args.pen.column c.args.word.now c.if-pen-word-le-COLUMNS.false in
    let room = rw fit.0 at c.requires.word_in_bounds in
    let put = c.put_bytes-b.ensures in
    let word = c.put_bytes-c.ensures in
    record { wrote = same_text (sym fit.0) (then-put c.args.word.now (wrote put.value put.buf_after (omega arith)) word.value word.buf_after room); column_value = sym fit.1 }
