use Rattle.std.proofs.Common.{arith}
use Rattle.model.specs.Limits.{limits}
use Rattle.terms.specs.Terms.{absent, member_number}
use Rattle.terms.proofs.Arrays.{fill-first}
use Rattle.terms.proofs.member_numbers.Goals as goal

pub loop-i-preserved : goal.loop-i-preserved
loop-i-preserved c =
    let l = c.loop-i in
    fill-first (member_number c.args.e) absent limits.members c.args.ms.now (omega arith) l.i _ l.r _
    (omega arith) l.invariant c.member_number.ensures
