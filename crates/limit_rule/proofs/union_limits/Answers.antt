-- `union_limits` passes on the limits of a union, in three rounds. Assumes nothing.
use Rattle.limit_rule.proofs.Steps.{union_made}
use Rattle.limit_rule.proofs.union_limits.Goals as goal

pub returns : goal.returns
returns c = union_made c.args.h _ c.args.fs.now _ _ _ _ c.raise_union.ensures c.lower_members.ensures c.sum_of-sum.ensures c.lower.ensures
