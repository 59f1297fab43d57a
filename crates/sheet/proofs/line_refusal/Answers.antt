-- `line_refusal` judges a line by its place. Assumes nothing.
use Rattle.sheet.proofs.Refusals.{positive}
use mathlib.Core.Path.{◌≡◌, sym, ap, ◌∙◌}
use Rattle.std.proofs.lemmas.Result.{err_from_is_err_and}
use Rattle.sheet.specs.Refusals.{refusal_number, judged}
use Rattle.model.specs.Sheet.{form_refusal, line_refusal}
use borrow.Author.Tests.{le-leb, lt-leb, eq-eqb, ne_eqb}
use Rattle.sheet.proofs.line_refusal.Goals as goal

pub returns-in_err-form_refusal : goal.returns-in_err-form_refusal
unfolding line_refusal
returns-in_err-form_refusal c =
    let p = err_from_is_err_and c.from_residual.result c.from_residual.ensures.1 in
    let why = c.in_err-form_refusal.field-0.0 in
    let bad : form_refusal c.args.line.now ≡ refusal_number why = sym c.form_refusal.ensures ∙ ap judged c.in_err-form_refusal.was in
    rw (p.1, p.2) (rw (bad, ne_eqb (refusal_number why) 0 (positive why)))

pub returns-then-done-eq0 : goal.returns-then-done-eq0
unfolding line_refusal
returns-then-done-eq0 c = simp (← c.form_refusal.ensures, c.in_ok-form_refusal.was, eq-eqb _ _ c.if-done-eq0.true) c.head_refusal.ensures

pub returns-then-done-s : goal.returns-then-done-s
unfolding line_refusal
returns-then-done-s c = simp (← c.form_refusal.ensures, c.in_ok-form_refusal.was, ne_eqb _ _ c.if-done-eq0.false, le-leb _ _ c.if-done-s.true) c.group_refusal.ensures

pub returns-then-done-s-2 : goal.returns-then-done-s-2
unfolding line_refusal
returns-then-done-s-2 c = simp (← c.form_refusal.ensures, c.in_ok-form_refusal.was, ne_eqb _ _ c.if-done-eq0.false, lt-leb _ _ c.if-done-s.false, le-leb _ _ c.if-done-s-2.true) c.constraint_refusal.ensures

pub returns : goal.returns
unfolding line_refusal
returns c = simp (← c.form_refusal.ensures, c.in_ok-form_refusal.was, ne_eqb _ _ c.if-done-eq0.false, lt-leb _ _ c.if-done-s.false, lt-leb _ _ c.if-done-s-2.false)
