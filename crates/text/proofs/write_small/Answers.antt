-- `write_small` writes a number of at most three digits. Assumes nothing.
use mathlib.Core.Path.{sym}
use lib.ListN.{length-set}
use native.Mathlib.Omega.{arith}
use Rattle.encoding_laws.proofs.Decimal.{decimal-small, decimal-one}
use Rattle.text.proofs.Numbers.{two_digits, three-digits, two-length, three-digits-length}
use Rattle.text.proofs.Writes.{byte, two, three, same_text}
use Rattle.text.proofs.write_small.Goals as goal

pub bounds-buf-at : goal.bounds-buf-at
bounds-buf-at c = omega (arith, decimal-one c.args.v c.if-v-lt10.true)

pub returns-then-v-lt10 : goal.returns-then-v-lt10
returns-then-v-lt10 c =
    rw c.digit.ensures
    (same_text (sym (decimal-small c.args.v c.if-v-lt10.true)) (byte _ _ _ (omega (arith, decimal-one c.args.v c.if-v-lt10.true))))

pub bounds-buf-at-then-tens-lt10 : goal.bounds-buf-at-then-tens-lt10
bounds-buf-at-then-tens-lt10 c = omega (arith, two-length c.args.v c.if-v-lt10.false c.if-tens-lt10.true)

pub bounds-buf-at-then-tens-lt10-2 : goal.bounds-buf-at-then-tens-lt10-2
bounds-buf-at-then-tens-lt10-2 c = simp length-set (omega (arith, two-length c.args.v c.if-v-lt10.false c.if-tens-lt10.true))

pub returns-then-tens-lt10 : goal.returns-then-tens-lt10
returns-then-tens-lt10 c =
    rw (c.digit-then-tens-lt10.ensures, c.digit-then-tens-lt10-2.ensures)
    (same_text (sym (two_digits c.args.v c.if-v-lt10.false c.if-tens-lt10.true))
    (two _ _ _ _ (omega (arith, two-length c.args.v c.if-v-lt10.false c.if-tens-lt10.true))))

pub bounds-buf-at-2 : goal.bounds-buf-at-2
bounds-buf-at-2 c = omega (arith, three-digits-length c.args.v c.if-tens-lt10.false (omega arith))

pub bounds-buf-at-3 : goal.bounds-buf-at-3
bounds-buf-at-3 c = simp length-set (omega (arith, three-digits-length c.args.v c.if-tens-lt10.false (omega arith)))

pub bounds-buf-at-4 : goal.bounds-buf-at-4
bounds-buf-at-4 c = simp length-set (omega (arith, three-digits-length c.args.v c.if-tens-lt10.false (omega arith)))

pub returns : goal.returns
returns c =
    rw (c.digit-2.ensures, c.digit-3.ensures, c.digit-4.ensures)
    (same_text (sym (three-digits c.args.v c.if-tens-lt10.false (omega arith)))
    (three _ _ _ _ _ (omega (arith, three-digits-length c.args.v c.if-tens-lt10.false (omega arith)))))
