-- `raise_union` goes from member to member. Invariant: the steps of those before it are done. Assumes nothing.
use Rattle.std.proofs.Common.{◌≡◌, map, take}
use Rattle.model.specs.LimitRules.{low_at_least}
use Rattle.model.specs.Propagate.{run}
use Rattle.limit_rule.proofs.raise_union.Given as goal

abbrev pub invariant-loop-f : goal.invariant-loop-f
invariant-loop-f l = l.t ≡ run (map (low_at_least l.h) (take l.f-index l.fs)) l.initial.t
