-- `union_literal` is a literal of a clause of code 6. Assumes nothing.
use mathlib.Core.Path.{sym, ap}
use lib.ListN.{get_or}
use Rattle.model.specs.declared.Literal.TheVariants.{Pos}
use Rattle.constraint.proofs.Union.{past_pairs, pair-first, pair-rest}
use Rattle.constraint.proofs.union_literal.Goals as goal

pub returns-then-k-j : goal.returns-then-k-j
returns-then-k-j c = sym (ap (λ l. get_or l (c.args.i) (Pos 0)) (past_pairs (c.args.k) (c.args.j) (c.if-k-j.true)))

pub returns-then-i-eq0 : goal.returns-then-i-eq0
returns-then-i-eq0 c = sym (pair-first (c.args.k) (c.args.j) (c.args.i) (c.if-j-eq0.false) (c.if-k-j.false) (c.if-i-eq0.true))

pub returns : goal.returns
returns c = sym (pair-rest (c.args.k) (c.args.j) (c.args.i) (c.if-j-eq0.false) (c.if-k-j.false) (c.if-i-eq0.false))
