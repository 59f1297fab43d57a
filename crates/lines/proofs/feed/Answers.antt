use mathlib.Core.Path.{sym, ap, ◌∙◌}
use Rattle.lines.specs.declared.Ended.{Ended}
use Rattle.lines.specs.Cut.{cutting, Feeding}
use Rattle.lines.proofs.Cutting.{goes, stops, newline-refusal, other-refusal, ended, added}
use Rattle.lines.proofs.feed.Goals as goal
use Rattle.lines.proofs.feed.Goals.{then-b-eq10+else-end-ne0, else-b-eq10}

pub returns-then-end-ne0 : goal.returns-then-end-ne0
returns-then-end-ne0 c =
    let newline = c.if-b-eq10.true in
    let end = c.end_line-end.ensures in
    let s = cutting c.loop-i.state c.loop-i.space c.loop-i.values in
    let refusal = newline-refusal _ s newline ∙ sym (ap Ended.refusal end.value) in
    let stop = stops _ _ s _ c.loop-i.invariant.0 c.loop-i-test.true (λ z. c.if-end-ne0.true (sym refusal ∙ z)) in
    let after = ended _ s newline _ end.value _ end.values_after in
    record { value = sym (ap Feeding.answer stop ∙ rw (refusal, sym after)); space_after = sym (ap (λ (f : Feeding). f.after.space) stop ∙ rw (sym after)); values_after = sym (ap (λ (f : Feeding). f.after.values) stop ∙ rw (sym after)) }

pub loop-i-preserved : goal.loop-i-preserved
loop-i-preserved c =
    let here = c.loop-i.invariant in
    let inside = c.loop-i-test.true in
    let s = cutting c.loop-i.state c.loop-i.space c.loop-i.values in
    elim c.if-b-eq10.branch [
      | then-b-eq10+else-end-ne0 w ↦ rw (w.space-is, w.values-is, w.state-is) (
        goes _ _ s _ here.0 inside (newline-refusal _ s w.if-b-eq10.true ∙ sym (ap Ended.refusal w.end_line-end.ensures.value) ∙ w.if-end-ne0.false) _
            (ended _ s w.if-b-eq10.true _ w.end_line-end.ensures.value _ w.end_line-end.ensures.values_after),
        here.1,
        w.end_line-end.auto.values ∙ here.2,
      )
      | else-b-eq10 w ↦ rw (w.space-is, w.values-is, w.state-is) (
        goes _ _ s _ here.0 inside (other-refusal _ s w.if-b-eq10.false) _
            (added _ s w.if-b-eq10.false _ w.keep_byte-state.ensures.value _ w.keep_byte-state.ensures.space_after),
        w.keep_byte-state.auto.space ∙ here.1,
        here.2,
      )
    ]
