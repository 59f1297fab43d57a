-- `long_literal` is a literal of the clause of all members. Assumes nothing.
use mathlib.Core.Path.{sym}
use Rattle.constraint.proofs.Union.{long-below, long-last, long-past}
use native.Mathlib.Omega.{arith}
use Rattle.constraint.proofs.long_literal.Goals as goal

pub returns-then-i-k : goal.returns-then-i-k
returns-then-i-k c = sym (long-below (c.args.k) (c.args.i) (c.if-i-k.true))

pub returns-then-i-k-2 : goal.returns-then-i-k-2
returns-then-i-k-2 c = rw (c.if-i-k-2.true) (sym (long-last (c.args.k)))

pub returns : goal.returns
returns c = sym (long-past (c.args.k) (c.args.i) (omega (arith, c.if-i-k-2.false)))
