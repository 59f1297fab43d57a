-- `begin` meets its contract: the reader's and settling's equations say what is known before the certificate. Assumes nothing.
use mathlib.Core.Path.{refl, sym, ◌∙◌}
use Rattle.certificate.proofs.Answer.{refused-opening, settled-opening, open-opening, out-no-draw, open-unrefuted, unrefuted_as, refused-out, refused_open, out_open, opening-told}
use Rattle.certificate.proofs.begin.Goals as goal

pub returns-then-r-ne0 : goal.returns-then-r-ne0
returns-then-r-ne0 c =
    let o = c.closed.ensures in record { opening_value = opening-told _ _ (o ∙ refused-opening _ _ c.read_sheet-r.ensures.value c.if-r-ne0.true); stands = record { out = λ e. absurd (refused-out (sym o ∙ e)); unrefuted = λ e. absurd (refused_open (sym o ∙ e)) }; text_unchanged = λ n. (refl, refl, refl, refl) }

pub returns-then-p-eq21 : goal.returns-then-p-eq21
returns-then-p-eq21 c =
    let o = c.closed-then-p-eq21.ensures in
    let r = c.read_sheet-r.ensures.value in
    let z = c.if-r-ne0.false in
    let p = c.propagate-p.ensures.value in record { opening_value = opening-told _ _ (o ∙ settled-opening _ _ r z _ p c.if-p-eq21.true); stands = record { out = λ e. out-no-draw _ _ r z _ p c.if-p-eq21.true; unrefuted = λ e. absurd (out_open (sym o ∙ e)) }; text_unchanged = λ n. (refl, refl, refl, refl) }

pub returns : goal.returns
returns c =
    let r = c.read_sheet-r.ensures.value in
    let z = c.if-r-ne0.false in
    let p = c.propagate-p.ensures.value in
    let h = c.if-p-eq21.false in record { opening_value = opening-told _ _ (open-opening _ _ r z _ p h); stands = record { out = λ e. absurd (out_open (sym e)); unrefuted = λ e. unrefuted_as c.first_line.ensures.0 (open-unrefuted _ _ r z _ p h _ _ _ _ c.load_clauses-state.ensures) }; text_unchanged = λ n. absurd (n refl) }
