-- `line_form` judges the form of a line: a byte alone, or a byte, a space and words. Assumes nothing.
use mathlib.Core.Path.{◌∙◌, sym, ap}
use native.Mathlib.Omega.{arith}
use Rattle.model.specs.Assignment.{nothing_said, form_of}
use Rattle.line_form.specs.Form.{form_from}
use Rattle.line_form.proofs.Forms.{form-says, empty, blank, alone, spaced, joined}
use Rattle.line_form.proofs.line_form.Goals as goal

-- the clauses by their names
named : {A B : Type 0} → A × B → record { value : A; result_value : B }
named p = record { value = p.0; result_value = p.1 }

pub returns-then-line-eq0 : goal.returns-then-line-eq0
returns-then-line-eq0 c =
    let l = c.args.line.now in named (form-says (form_of l) _ (sym (ap form_from (empty l c.if-line-eq0.true))))

pub returns-then-line-eq32 : goal.returns-then-line-eq32
returns-then-line-eq32 c =
    let l = c.args.line.now in
    named (form-says (form_of l) _ (sym (ap form_from (blank l (omega (arith, c.if-line-eq0.false)) c.if-line-eq32.true))))

pub returns-then-line-eq1 : goal.returns-then-line-eq1
unfolding nothing_said
returns-then-line-eq1 c =
    let l = c.args.line.now in named (form-says (form_of l) _ (sym (ap form_from (alone l c.if-line-eq32.false c.if-line-eq1.true))))

pub returns-then-line-ne32 : goal.returns-then-line-ne32
returns-then-line-ne32 c =
    let l = c.args.line.now in
    named (form-says (form_of l) _ (sym (ap form_from (joined l c.if-line-eq32.false c.if-line-eq1.false (omega (arith, c.if-line-eq0.false)) c.if-line-ne32.true))))

pub returns : goal.returns
returns c =
    let l = c.args.line.now in
    named (form-says (form_of l) _
    (c.words_form.ensures.value ∙ ap form_from (sym (spaced l c.if-line-eq32.false c.if-line-eq1.false (omega (arith, c.if-line-eq0.false)) c.if-line-ne32.false))))
