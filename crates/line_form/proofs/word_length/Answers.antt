-- `word_length` is the place of the first space, or the length. Assumes nothing.
use mathlib.Core.Path.{refl, ◌∙◌}
use lib.Dec.{eqb}
use Rattle.line_form.specs.Form.{word_length}
use Rattle.model.proofs.Search.{counts-before}
use Rattle.line_form.proofs.word_length.Goals as goal

pub returns : goal.returns
returns c = c.length_before.ensures ∙ counts-before (λ b. eqb b 32) word_length refl (λ b bs. refl) c.args.s.now
