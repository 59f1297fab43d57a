-- `put_value` writes a blank, a minus sign where the value is false, and the variable. Assumes nothing.
use mathlib.Core.Path.{sym}
use native.Mathlib.Omega.{arith}
use Rattle.model.specs.Text.{decimal}
use Rattle.text.proofs.Writes.{wrote, same_text, done}
use Rattle.answer.proofs.Writing.{then-put}
use Rattle.answer.proofs.Values.{value-true, value-false, value_none}
use Rattle.answer.proofs.put_value.Goals as goal

pub returns-in-1 : goal.returns-in-1
returns-in-1 c =
    let said = value-true c.args.x c.args.v c.in-1.is in
    let room = rw said at c.requires in
    let first = c.put_bytes-n.ensures in
    let number = c.put_number.ensures in
    same_text (sym said) (then-put (decimal c.args.v) (wrote first.value first.buf_after (omega arith)) number.value number.buf_after room)

pub returns-in-2 : goal.returns-in-2
returns-in-2 c =
    let said = value-false c.args.x c.args.v (omega (arith, c.in-2.is)) c.in-2.is in
    let room = rw said at c.requires in
    let first = c.put_bytes-n-in-2.ensures in
    let number = c.put_number-in-2.ensures in
    same_text (sym said) (then-put (decimal c.args.v) (wrote first.value first.buf_after (omega arith)) number.value number.buf_after room)

pub returns-in_default : goal.returns-in_default
returns-in_default c =
    same_text (sym (value_none c.args.x c.args.v (λ q. omega arith) (λ q. omega arith))) (done c.args.at _ (omega (arith, c.requires)))
