-- `member_numbers` is what is known of an entrant in each group of a constraint. Assumes nothing.
use Rattle.std.proofs.Common.{◌≡◌}
use Rattle.model.specs.Limits.{limits}
use Rattle.terms.specs.Terms.{first_of, absent, member_number}
use Rattle.terms.proofs.member_numbers.Given as goal

abbrev pub invariant-loop-i : goal.invariant-loop-i
invariant-loop-i l = l.r ≡ first_of (member_number l.e) absent limits.members l.i l.ms
