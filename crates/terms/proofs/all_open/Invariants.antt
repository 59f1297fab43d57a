-- `all_open` goes through the first members and stops at one that is not open. Assumes nothing.
use Rattle.std.proofs.Common.{◌≡◌, ◌-◌}
use Rattle.std.specs.List.{list_all}
use Rattle.model.specs.Lists.{range}
use Rattle.terms.specs.Terms.{number_at, is_open}
use Rattle.terms.proofs.all_open.Given as goal

abbrev pub invariant-loop-i : goal.invariant-loop-i
invariant-loop-i l = list_all (λ j. is_open (number_at l.ns j)) (range 0 l.k) ≡ list_all (λ j. is_open (number_at l.ns j)) (range l.i (l.k - l.i))
