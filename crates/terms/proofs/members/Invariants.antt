-- `members` is what a constraint asks of its groups. Assumes nothing.
use Rattle.std.proofs.Common.{◌≡◌}
use Rattle.model.specs.Limits.{limits}
use Rattle.terms.specs.Terms.{first_of, no_member, member_at}
use Rattle.terms.proofs.members.Given as goal

abbrev pub invariant-loop-i : goal.invariant-loop-i
invariant-loop-i l = l.r ≡ first_of (member_at l.groups l.first) no_member limits.members l.i l.ids
