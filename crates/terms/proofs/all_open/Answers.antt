use Rattle.std.proofs.Common.{sym, ap, ◌∙◌}
use Rattle.model.proofs.Loops.{range-goes}
use Rattle.terms.specs.Terms.{number_at, is_open}
use Rattle.terms.proofs.all_open.Goals as goal

pub loop-i-preserved : goal.loop-i-preserved
loop-i-preserved c =
    let l = c.loop-i in
    let open-i = ap is_open (sym c.number_at.ensures) ∙ sym c.is_open.ensures ∙ c.if-not-is_open.false in
    range-goes (λ j. is_open (number_at c.args.ns.now j)) _ c.args.k l.i l.invariant c.loop-i-test.true open-i
