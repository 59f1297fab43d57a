-- `may_differ` looks at the sets of the table alone. Assumes nothing.
use Rattle.std.proofs.Common.{arith, rules}
use Rattle.model.specs.Clauses.{is_difference}
use Rattle.model.specs.Difference.{may_differ}
use Rattle.rules.proofs.Alone.{whatever-limits}
use Rattle.rules.proofs.may_differ.Goals as goal

pub returns-clause-whatever_limits : goal.returns-clause-whatever_limits
unfolding may_differ is_difference
returns-clause-whatever_limits c = whatever-limits _ c.args.c.now c.args.t.now (omega arith) (search rules)
