-- `clause_count`: a refused model has no listing. Assumes nothing.
use mathlib.Core.Path.{sym, ◌∙◌}
use Rattle.counts.proofs.Settled.{unlisted, listed, settled-where}
use Rattle.counts.proofs.clause_count.Goals as goal

pub returns-then-unsettled-ne0 : goal.returns-then-unsettled-ne0
returns-then-unsettled-ne0 c = unlisted c.args.m (λ z. c.if-unsettled-ne0.true (c.unsettled.ensures ∙ z))

pub settled_count-requires : goal.settled_count-requires
settled_count-requires c =
    settled-where c.args.m (sym c.unsettled.ensures ∙ c.if-unsettled-ne0.false) c.whole.ensures.0 c.whole.ensures.1

pub returns : goal.returns
returns c = c.settled_count.ensures ∙ sym (listed c.args.m (sym c.unsettled.ensures ∙ c.if-unsettled-ne0.false))
