-- `has_order_mark` looks at the first three bytes. Assumes nothing.
use borrow.Author.Tests.{eq-eqb, ne_eqb}
use Rattle.line_fault.specs.Fault.{order_mark}
use Rattle.line_fault.proofs.has_order_mark.Goals as goal

pub returns-then-byte-ne239 : goal.returns-then-byte-ne239
unfolding order_mark
returns-then-byte-ne239 c = rw (eq-eqb _ _ c.if-done-ne0.false, ← c.byte.ensures, ne_eqb _ _ c.if-byte-ne239.true)

pub returns-then-byte-ne187 : goal.returns-then-byte-ne187
unfolding order_mark
returns-then-byte-ne187 c = rw (eq-eqb _ _ c.if-done-ne0.false, ← c.byte.ensures, ← c.byte-2.ensures, eq-eqb _ _ c.if-byte-ne239.false, ne_eqb _ _ c.if-byte-ne187.true)

pub returns : goal.returns
unfolding order_mark
returns c = rw (eq-eqb _ _ c.if-done-ne0.false, ← c.byte.ensures, ← c.byte-2.ensures, ← c.byte-3.ensures, eq-eqb _ _ c.if-byte-ne239.false, eq-eqb _ _ c.if-byte-ne187.false)
