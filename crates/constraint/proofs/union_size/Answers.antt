-- `union_size` is the size of a clause of code 6. Assumes nothing.
use mathlib.Core.Path.{sym, ap}
use lib.ListN.{length}
use Rattle.constraint.proofs.Union.{long-size, pair, past_pairs}
use Rattle.constraint.proofs.union_size.Goals as goal

pub returns-then-j-eq0 : goal.returns-then-j-eq0
returns-then-j-eq0 c = rw (c.if-j-eq0.true) (sym (long-size (c.args.k)))

pub returns-then-j-k : goal.returns-then-j-k
returns-then-j-k c = sym (ap length (pair (c.args.k) (c.args.j) (c.if-j-eq0.false) (c.if-j-k.true)))

pub returns : goal.returns
returns c = sym (ap length (past_pairs (c.args.k) (c.args.j) (c.if-j-k.false)))
