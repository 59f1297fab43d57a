-- `literal_rule` goes through the other literals. Invariant: the entrants for whom those before it are settled false. Assumes nothing.
use Rattle.std.proofs.Common.{◌≡◌, map, take}
use Rattle.model.specs.Clauses.{of_group}
use Rattle.model.specs.Propagate.{all_false}
use Rattle.clause_rule.proofs.literal_rule.Given as goal

abbrev pub invariant-loop-x : goal.invariant-loop-x
invariant-loop-x l = l.v ≡ all_false l.t l.w (map (of_group l.ids) (take l.x-index l.others))
