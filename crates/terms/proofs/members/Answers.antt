use Rattle.std.proofs.Common.{ℕ, get_or, refl, ap, arith}
use Rattle.model.specs.Limits.{limits}
use Rattle.model.specs.Model.{zero_group}
use Rattle.terms.specs.Terms.{no_member, member_at}
use Rattle.terms.proofs.Arrays.{fill-first}
use Rattle.terms.proofs.members.Goals as goal

pub loop-i-init : goal.loop-i-init
unfolding no_member
loop-i-init c = refl

pub loop-i-preserved : goal.loop-i-preserved
unfolding zero_group member_at
loop-i-preserved c =
    let l = c.loop-i in
    fill-first (member_at c.args.groups.now c.args.first.now) no_member limits.members c.args.ids.now (omega arith) l.i 0 l.r _
    (omega arith) l.invariant
    (ap (λ (p : ℕ). record { fixed = (get_or c.args.groups.now p zero_group).fixed; possible = (get_or c.args.groups.now p zero_group).possible; first = get_or c.args.first.now p 0 }) c.place-g.ensures.0)
