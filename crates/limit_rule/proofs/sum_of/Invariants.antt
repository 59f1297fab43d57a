-- `sum_of` adds up the highs of a union's members. Invariant: the sum of those before it. Assumes nothing.
use Rattle.std.proofs.Common.{◌≡◌, ◌≤◌, ◌*◌, take}
use Rattle.model.specs.Lists.{total}
use Rattle.model.specs.Model.{group_at}
use Rattle.limit_rule.proofs.sum_of.Given as goal

abbrev pub invariant-loop-f : goal.invariant-loop-f
invariant-loop-f l = (l.sum ≡ total (λ f. (group_at l.t f).high) (take l.f-index l.fs)) × (l.sum ≤ l.f-index * 4294967295)
