-- `put` meets its contract. Assumes nothing.
use mathlib.Core.Path.{refl}
use Rattle.std.proofs.lemmas.Option.{none-some}
use Rattle.std.proofs.Common.{sym, ◌∙◌, arith}
use Rattle.refutation.proofs.Steps.{keep-each, put-kept, begun_more}
use Rattle.refutation.specs.Steps.{longer}
use Rattle.refutation.proofs.Equations.{put_full, put-no-variable, put-made}
use Rattle.refutation.proofs.put.Goals as goal

pub returns-then-store-at : goal.returns-then-store-at
returns-then-store-at c = record { keeps = keep-each c.refuse.ensures.holds; appended = λ z. absurd (none-some _ (sym z ∙ c.refuse.ensures.refusal_value)); value = put_full _ _ _ _ _ refl c.if-store-at.true _ c.refuse.ensures.value }

pub returns-then-marks-k : goal.returns-then-marks-k
returns-then-marks-k c = record { keeps = keep-each c.refuse-then-marks-k.ensures.holds; appended = λ z. absurd (none-some _ (sym z ∙ c.refuse-then-marks-k.ensures.refusal_value)); value = put-no-variable _ _ _ _ _ refl (omega (arith, c.if-store-at.false)) c.if-marks-k.true _ c.refuse-then-marks-k.ensures.value }

pub returns : goal.returns
unfolding longer
returns c = record { keeps = record { keeps = λ a h. put-kept h _ _ refl c.if-store-at.false c.if-marks-k.false }; appended = λ z. record { taken = z; more = λ a p. begun_more a _ _ _ _ p c.if-store-at.false }; value = put-made _ _ _ _ _ refl (omega (arith, c.if-store-at.false)) (omega (arith, c.if-marks-k.false)) }
