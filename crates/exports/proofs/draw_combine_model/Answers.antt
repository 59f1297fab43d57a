-- `draw_combine_model` lays the combined model's words, or hands on a refusal. Assumes nothing.
use mathlib.Core.Path.{sym, ap₂, ◌∙◌}
use Rattle.model.specs.Combine.{combined}
use Rattle.exports.proofs.Combining.{models-refused, models-short, models-combined}
use Rattle.exports.proofs.draw_combine_model.Goals as goal

-- the clauses by their names
named : {A B : Type 0} → A × B → record { value : A; words_after : B }
named p = record { value = p.0; words_after = p.1 }

pub returns-then-r-ne0 : goal.returns-then-r-ne0
returns-then-r-ne0 c =
    let e = c.combine-r.ensures.value ∙ ap₂ combined c.model_from-a.ensures.value c.model_from-b.ensures.value in
    named (models-refused _ _ _ e c.args.words.now c.if-r-ne0.true)

pub returns-then-not-put_model : goal.returns-then-not-put_model
returns-then-not-put_model c =
    let e = c.combine-r.ensures.value ∙ ap₂ combined c.model_from-a.ensures.value c.model_from-b.ensures.value in
    let w = c.put_model.ensures in
    let r = models-short _ _ _ e c.args.words.now c.if-r-ne0.false (sym w.value ∙ c.if-not-put_model.true) in
    record { value = r.0; words_after = w.words_after ∙ r.1 }

pub returns : goal.returns
returns c =
    let e = c.combine-r.ensures.value ∙ ap₂ combined c.model_from-a.ensures.value c.model_from-b.ensures.value in
    let w = c.put_model.ensures in
    let r = models-combined _ _ _ e c.args.words.now c.if-r-ne0.false (sym w.value ∙ c.if-not-put_model.false) in
    record { value = r.0; words_after = w.words_after ∙ r.1 }
