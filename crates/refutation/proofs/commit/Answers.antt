-- `commit` stores an implied clause after those stored. Assumes nothing.
use Rattle.std.proofs.lemmas.Option.{none-some}
use Rattle.std.proofs.Common.{sym, ◌∙◌, refl, arith}
use borrow.Author.Tests.{not-true}
use Rattle.refutation.proofs.Steps.{not-false, keep-each, begun-none, commit-kept}
use Rattle.refutation.specs.Steps.{begun_size, committed}
use Rattle.refutation.proofs.Equations.{commit-6, commit-2, commit-short, commit-large, commit-none, commit-before, commit-7, commit-made}
use Rattle.refutation.proofs.commit.Goals as goal

pub returns-then-not-s : goal.returns-then-not-s
returns-then-not-s c = record { keeps = keep-each c.refuse.ensures.holds; begun = λ z. absurd (none-some _ (sym z ∙ c.refuse.ensures.refusal_value)); value = commit-6 _ _ _ _ refl (not-true _ c.if-not-s.true) _ c.refuse.ensures.value }

pub returns-then-index-i : goal.returns-then-index-i
returns-then-index-i c = record { keeps = keep-each c.refuse-then-index-i.ensures.holds; begun = λ z. absurd (none-some _ (sym z ∙ c.refuse-then-index-i.ensures.refusal_value)); value = commit-2 _ _ _ _ refl (not-false _ c.if-not-s.false) c.if-index-i.true _ c.refuse-then-index-i.ensures.value }

pub returns-then-store-at : goal.returns-then-store-at
returns-then-store-at c = record { keeps = keep-each c.refuse-then-store-at.ensures.holds; begun = λ z. absurd (none-some _ (sym z ∙ c.refuse-then-store-at.ensures.refusal_value)); value = commit-short _ _ _ _ refl (not-false _ c.if-not-s.false) (omega (arith, c.if-index-i.false)) c.if-store-at.true _ c.refuse-then-store-at.ensures.value }

pub returns-then-at-ge4294967290 : goal.returns-then-at-ge4294967290
returns-then-at-ge4294967290 c = record { keeps = keep-each c.refuse-then-at-ge4294967290.ensures.holds; begun = λ z. absurd (none-some _ (sym z ∙ c.refuse-then-at-ge4294967290.ensures.refusal_value)); value = commit-large _ _ _ _ refl (not-false _ c.if-not-s.false) (omega (arith, c.if-index-i.false)) (omega (arith, c.if-store-at.false)) c.if-at-ge4294967290.true _ c.refuse-then-at-ge4294967290.ensures.value }

pub returns-then-at-lt2 : goal.returns-then-at-lt2
returns-then-at-lt2 c = record { keeps = keep-each c.refuse-then-at-lt2.ensures.holds; begun = λ z. absurd (none-some _ (sym z ∙ c.refuse-then-at-lt2.ensures.refusal_value)); value = commit-none _ _ _ _ refl (not-false _ c.if-not-s.false) (omega (arith, c.if-index-i.false)) (omega (arith, c.if-store-at.false)) (omega (arith, c.if-at-ge4294967290.false)) c.if-at-lt2.true _ c.refuse-then-at-lt2.ensures.value }

pub returns-then-at-top : goal.returns-then-at-top
returns-then-at-top c = record { keeps = keep-each c.refuse-then-at-top.ensures.holds; begun = λ z. absurd (none-some _ (sym z ∙ c.refuse-then-at-top.ensures.refusal_value)); value = commit-before _ _ _ _ refl (not-false _ c.if-not-s.false) (omega (arith, c.if-index-i.false)) (omega (arith, c.if-store-at.false)) (omega (arith, c.if-at-ge4294967290.false)) (omega (arith, c.if-at-lt2.false)) c.if-at-top.true _ c.refuse-then-at-top.ensures.value }

pub returns-then-s-ge4294967295 : goal.returns-then-s-ge4294967295
returns-then-s-ge4294967295 c = record { keeps = keep-each c.refuse-then-s-ge4294967295.ensures.holds; begun = λ z. absurd (none-some _ (sym z ∙ c.refuse-then-s-ge4294967295.ensures.refusal_value)); value = commit-7 _ _ _ _ refl (not-false _ c.if-not-s.false) (omega (arith, c.if-index-i.false)) (omega (arith, c.if-store-at.false)) (omega (arith, c.if-at-ge4294967290.false)) (omega (arith, c.if-at-lt2.false)) (omega (arith, c.if-at-top.false)) c.if-s-ge4294967295.true _ c.refuse-then-s-ge4294967295.ensures.value }

pub returns : goal.returns
unfolding committed begun_size
returns c = record { keeps = record { keeps = λ a h. commit-kept h (not-false _ c.if-not-s.false) _ _ refl c.if-index-i.false (omega arith) _ refl }; begun = λ z. record { taken = z; none = λ a. begun-none a _ _ _ (omega arith) }; value = commit-made _ _ _ _ refl (not-false _ c.if-not-s.false) (omega (arith, c.if-index-i.false)) (omega (arith, c.if-store-at.false)) (omega (arith, c.if-at-ge4294967290.false)) (omega (arith, c.if-at-lt2.false)) (omega (arith, c.if-at-top.false)) (omega (arith, c.if-s-ge4294967295.false)) }
