-- `entrant_total` counts the clauses that an entrant keeps; all of them where its members are all open. Assumes nothing.
use mathlib.Core.Path.{sym, ◌∙◌}
use native.Mathlib.Omega.{arith}
use Rattle.model.proofs.Lists.{true-T}
use Rattle.counts.proofs.Entrants.{all-kept}
use Rattle.counts.proofs.entrant_total.Goals as goal

pub returns-then-all_open : goal.returns-then-all_open
returns-then-all_open c =
    let e = all-kept c.args.ns.now c.args.k c.args.code c.args.count c.requires.members_below (true-T _ (sym c.all_open.ensures ∙ c.if-all_open.true)) in
    (c.clause_count.ensures ∙ sym e, omega (arith, c.clause_count.ensures))
