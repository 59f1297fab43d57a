-- `model_from`: all the words of a model, or none. Assumes nothing.
use mathlib.Core.Path.{sym, ◌∙◌, subst}
use native.Mathlib.Omega.{arith}
use Rattle.words.specs.Words.{HandedOver}
use Rattle.words.proofs.Kept.{handed_over, short-model, long-model}
use Rattle.words.proofs.model_from.Goals as goal

pub returns-then-words-lt-MODEL_WORDS-clause-handed_over : goal.returns-then-words-lt-MODEL_WORDS-clause-handed_over
returns-then-words-lt-MODEL_WORDS-clause-handed_over c =
    subst (HandedOver c.args.words.now) (sym (c.model_of.ensures ∙ short-model _ c.if-words-lt-MODEL_WORDS.true)) (handed_over c.args.words.now)

pub returns-clause-handed_over : goal.returns-clause-handed_over
returns-clause-handed_over c =
    subst (HandedOver c.args.words.now) (sym (c.model_of-2.ensures ∙ long-model _ (omega (arith, c.if-words-lt-MODEL_WORDS.false)))) (handed_over c.args.words.now)
