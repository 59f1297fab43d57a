use Prim.Native.Nat.{◌<◌, ◌+◌}
use mathlib.Core.Path.{◌∙◌, sym, ap}
use lib.ListN.{length}
use Rattle.line_form.proofs.Forms.{is_names, not-names}
use Rattle.std.proofs.lemmas.Result.{err_from_is_err_and}
use Rattle.literals.specs.Line.{refusal_of}
use Rattle.literals.proofs.Named.{is_free, noted-none}
use Rattle.literals.proofs.Judged.{look_start, judge-done, judge-le, judge-size, judge-end, judge-named, judge-bad, judge-last, judge-more}
use native.Mathlib.Omega.{arith}
use Rattle.literals.proofs.judge.Goals as goal

pub loop-count-init : goal.loop-count-init
loop-count-init c = look_start _ _ _ _ noted-none

pub slice_bounds-word_value-end : goal.slice_bounds-word_value-end
slice_bounds-word_value-end c = judge-size c.loop-count.invariant c.loop-count-test.true c.word_length-k.ensures

pub returns-in_default : goal.returns-in_default
returns-in_default c =
    judge-end c.loop-count.invariant c.loop-count-test.true c.word_length-k.ensures
    (ap is_names (sym c.word_value.ensures.value) ∙ not-names c.word_value.result c.in_default.not-Names)

pub new_place-requires : goal.new_place-requires
new_place-requires c = record { noted = c.loop-count.invariant.noted; le_v = judge-named c.loop-count.invariant c.loop-count-test.true c.word_length-k.ensures (sym c.word_value.ensures.value ∙ c.in-Names.is) c.variable_of-v.ensures }

pub returns-in_err-new_place : goal.returns-in_err-new_place
returns-in_err-new_place c =
    let is = sym c.word_value.ensures.value ∙ c.in-Names.is in
    let bad =
    judge-bad c.loop-count.invariant c.loop-count-test.true c.word_length-k.ensures is c.variable_of-v.ensures c.new_place.ensures.value
    (ap is_free c.in_err-new_place.was) in
    let p = err_from_is_err_and c.from_residual.result c.from_residual.ensures.1 in
    rw (p.1, p.2) (sym (ap refusal_of c.in_err-new_place.was) ∙ bad)

pub note-requires : goal.note-requires
note-requires c =
    judge-named c.loop-count.invariant c.loop-count-test.true c.word_length-k.ensures (sym c.word_value.ensures.value ∙ c.in-Names.is) c.variable_of-v.ensures

pub overflow_add-at : goal.overflow_add-at
overflow_add-at c = omega (arith, judge-le c.loop-count.invariant c.loop-count-test.true c.word_length-k.ensures)

pub returns-then-at-k : goal.returns-then-at-k
returns-then-at-k c =
    let is = sym c.word_value.ensures.value ∙ c.in-Names.is in
    judge-last c.loop-count.invariant c.loop-count-test.true c.word_length-k.ensures is c.variable_of-v.ensures c.new_place.ensures.value c.in_ok-new_place.was
    c.if-at-k.true

pub overflow_add-at-in-loop-count : goal.overflow_add-at-in-loop-count
overflow_add-at-in-loop-count c = omega (arith, judge-le c.loop-count.invariant c.loop-count-test.true c.word_length-k.ensures)

pub overflow_add-at-in-loop-count-2 : goal.overflow_add-at-in-loop-count-2
overflow_add-at-in-loop-count-2 c = omega (arith, judge-le c.loop-count.invariant c.loop-count-test.true c.word_length-k.ensures, c.if-at-k.false)

pub loop-count-preserved : goal.loop-count-preserved
loop-count-preserved c =
    let is = sym c.word_value.ensures.value ∙ c.in-Names.is in
    let word = c.word_length-k in
    let more : c.loop-count.at + word.result < length c.args.s.now = omega (arith, judge-le c.loop-count.invariant c.loop-count-test.true word.ensures, c.if-at-k.false) in
    rw c.note.ensures
    (judge-more c.loop-count.invariant c.loop-count-test.true word.ensures is c.variable_of-v.ensures c.new_place.ensures.value c.in_ok-new_place.was more)

pub returns : goal.returns
returns c = judge-done _ _ _ _ _ _ c.loop-count.invariant (omega (arith, c.loop-count-test.false))
