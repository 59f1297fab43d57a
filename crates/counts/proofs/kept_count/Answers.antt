-- `kept_count` counts a clause that is kept. Assumes nothing.
use mathlib.Core.Path.{sym, ◌∙◌}
use Rattle.counts.proofs.Entrants.{left_out, counted-once}
use native.Mathlib.Omega.{arith}
use Rattle.counts.proofs.kept_count.Goals as goal

pub returns-then-clause_true : goal.returns-then-clause_true
returns-then-clause_true c = (left_out c.args.ns.now c.args.code c.args.count c.args.j (sym c.clause_true.ensures ∙ c.if-clause_true.true), omega arith)

pub returns : goal.returns
returns c = (counted-once c.args.ns.now c.args.code c.args.count c.args.j (sym c.clause_true.ensures ∙ c.if-clause_true.false), omega arith)
