-- `outputs_of` is the number of a group's outputs. Assumes nothing.
use mathlib.Core.Path.{sym, ap, ◌∙◌}
use native.Mathlib.Omega.{arith}
use borrow.Author.Tests.{not-true, not-false}
use Rattle.model.specs.Limits.{limits}
use Rattle.model.specs.Totalizer.{tree_output_count}
use Rattle.encoding_laws.proofs.Bounds.{outputs_mono}
use Rattle.numbering.proofs.Totalizers.{totalizer-parts, none-outputs, some-outputs, within_word, outputs-few}
use Rattle.numbering.proofs.outputs_of.Goals as goal

pub returns-then-not-t : goal.returns-then-not-t
returns-then-not-t c =
    let g = c.args.g in
    let p = totalizer-parts g _ c.totalizer_of-t.ensures.value in
    (sym (none-outputs g (sym p.3 ∙ not-true _ c.if-not-t.true)), omega arith)

pub returns : goal.returns
returns c =
    let g = c.args.g in
    let p = totalizer-parts g _ c.totalizer_of-t.ensures.value in
    let k = c.totalizer_of-t.ensures.size_le_word in
    let e = c.output_count.ensures ∙ within_word _ k in (
      e ∙ ap tree_output_count p.0 ∙ sym (some-outputs g (sym p.3 ∙ not-false _ c.if-not-t.false)),
      omega (arith, e, outputs_mono _ limits.word k, outputs-few),
    )
