use mathlib.Core.Path.{refl, sym, ap, ◌∙◌}
use native.Mathlib.Omega.{arith}
use Rattle.lines.specs.declared.Fed.{Fed}
use Rattle.lines.specs.Cut.{Cutting}
use Rattle.lines.proofs.Lines.{part-first, part-last, part-moves, part-inside, part-more}
use Rattle.solver_output.proofs.take_piece.Goals as goal

pub loop-at-init : goal.loop-at-init
loop-at-init c = (part-first _ _, refl, refl)

pub overflow_add-at : goal.overflow_add-at
overflow_add-at c = omega (arith, ap Fed.used c.feed-fed.ensures.value, part-inside c.loop-at.invariant.0 c.loop-at-test.true)

pub loop-at-smaller : goal.loop-at-smaller
loop-at-smaller c = omega (arith, ap Fed.used c.feed-fed.ensures.value, part-inside c.loop-at.invariant.0 c.loop-at-test.true, part-moves c.loop-at.invariant.0 c.loop-at-test.true)

pub loop-at-preserved : goal.loop-at-preserved
loop-at-preserved c =
    let here = c.loop-at.invariant in
    let fed = c.feed-fed in (
      part-more here.0 c.loop-at-test.true fed.result fed.ensures.value _ _ fed.ensures.space_after fed.ensures.values_after,
      fed.auto.space ∙ here.1,
      fed.auto.values ∙ here.2,
    )

pub returns : goal.returns
returns c =
    let last = part-last c.loop-at.invariant.0 c.loop-at-test.false in
    record { value = sym (ap Cutting.cut last); space_after = sym (ap Cutting.space last); values_after = sym (ap Cutting.values last) }
