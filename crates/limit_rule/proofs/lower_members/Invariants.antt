-- `lower_members` goes from member to member. Invariant: the steps of those before it are done. Assumes nothing.
use Rattle.std.proofs.Common.{◌≡◌, map, take}
use Rattle.model.specs.LimitRules.{high_at_most}
use Rattle.model.specs.Propagate.{run}
use Rattle.limit_rule.proofs.lower_members.Given as goal

abbrev pub invariant-loop-f : goal.invariant-loop-f
invariant-loop-f l = l.t ≡ run (map (λ f. high_at_most f l.h) (take l.f-index l.fs)) l.initial.t
