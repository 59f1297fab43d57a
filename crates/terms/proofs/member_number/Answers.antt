-- `member_number` is what is known of an entrant in a group, as a number. Assumes nothing.
use Rattle.std.proofs.Common.{arith, refl}
use Rattle.model.proofs.Words.{shifted}
use Rattle.terms.proofs.Arrays.{number_past, number-present, number-absent, number-open}
use Rattle.terms.proofs.member_number.Goals as goal

pub returns-then-e-ge-WORD : goal.returns-then-e-ge-WORD
returns-then-e-ge-WORD c = number_past c.args.m c.args.e (omega arith) (omega arith) c.if-e-ge-WORD.true

pub returns-then-m-e-eq1 : goal.returns-then-m-e-eq1
returns-then-m-e-eq1 c = number-present c.args.m c.args.e c.if-m-e-eq1.true

pub returns-then-m-e-eq1-2 : goal.returns-then-m-e-eq1-2
returns-then-m-e-eq1-2 c =
    number-open c.args.m c.args.e c.if-m-e-eq1.false c.if-m-e-eq1-2.true _ _ (shifted c.args.e c.if-e-ge-WORD.false) refl

pub returns : goal.returns
returns c = number-absent c.args.m c.args.e c.if-m-e-eq1.false c.if-m-e-eq1-2.false
