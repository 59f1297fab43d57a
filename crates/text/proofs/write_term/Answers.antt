-- `write_term` writes nothing where a term is known; else a sign, the digits and a space. Assumes nothing.
use mathlib.Core.Path.{sym}
use native.Mathlib.Omega.{arith}
use lib.ListN.{length-set}
use Rattle.text.proofs.Numbers.{pos-text, neg-text, pos-length, neg-length}
use Rattle.text.proofs.Writes.{byte, then, same_text}
use Rattle.text.proofs.write_term.Goals as goal

pub write_variable-requires : goal.write_variable-requires
write_variable-requires c = omega (arith, pos-length c.in-Open-Pos.is (rw c.in-Open-Pos.is at c.in-Open-Pos.field-0-is))

pub bounds-buf-at : goal.bounds-buf-at
bounds-buf-at c = omega (arith, neg-length c.in-Open-Neg.is (rw c.in-Open-Neg.is at c.in-Open-Neg.field-0-is))

pub write_variable-requires-in-Open-Neg : goal.write_variable-requires-in-Open-Neg
write_variable-requires-in-Open-Neg c = rw length-set (omega (arith, neg-length c.in-Open-Neg.is (rw c.in-Open-Neg.is at c.in-Open-Neg.field-0-is)))

pub returns-in-Open-Pos : goal.returns-in-Open-Pos
returns-in-Open-Pos c = same_text (sym (pos-text c.in-Open-Pos.is (rw c.in-Open-Pos.is at c.in-Open-Pos.field-0-is))) c.write_variable.ensures

pub returns-in-Open-Neg : goal.returns-in-Open-Neg
returns-in-Open-Neg c =
    same_text (sym (neg-text c.in-Open-Neg.is (rw c.in-Open-Neg.is at c.in-Open-Neg.field-0-is)))
    (then (byte 45 c.args.at c.args.buf.now (omega (arith, neg-length c.in-Open-Neg.is (rw c.in-Open-Neg.is at c.in-Open-Neg.field-0-is)))) c.write_variable-in-Open-Neg.ensures)
