use Prim.Native.Nat.{◌<◌, ◌+◌}
use mathlib.Core.Path.{◌∙◌, sym, ap}
use lib.ListN.{length, drop}
use Rattle.model.specs.Assignment.{words_of, say_words, word_closes}
use Rattle.line_form.specs.Form.{form_after}
use Rattle.line_form.proofs.Words.{k-le, word_size, is_last, is-more, words-some}
use Rattle.line_form.proofs.Forms.{is_names, not-names, form-bad, form-names, form-closing, form-not-last, form-none, form-says}
use native.Mathlib.Omega.{arith}
use Rattle.line_form.proofs.words_form.Goals as goal
use Rattle.line_form.proofs.words_form.Goals.{then-at-k+else-word_closes, else-at-k}

-- the clauses by their names
named : {A B : Type 0} → A × B → record { value : A; result_value : B }
named p = record { value = p.0; result_value = p.1 }

pub slice_bounds-word_value-end : goal.slice_bounds-word_value-end
slice_bounds-word_value-end c = word_size c.args.s.now c.loop-at.at c.word_length-k.result c.loop-at.invariant.0 c.word_length-k.ensures

pub overflow_add-at : goal.overflow_add-at
overflow_add-at c = omega (arith, k-le c.args.s.now c.loop-at.at c.word_length-k.result c.loop-at.invariant.0 c.word_length-k.ensures)

pub returns-then-word_closes : goal.returns-then-word_closes
returns-then-word_closes c =
    let loop = c.loop-at in
    let last = is_last c.args.s.now loop.at c.word_length-k.result loop.invariant.0 c.word_length-k.ensures c.if-at-k.true in
    let closes = ap word_closes (sym c.word_value-w.ensures.value) ∙ sym c.word_closes.ensures ∙ c.if-word_closes.true in
    named (form-says (say_words (words_of c.args.s.now)) _ (sym (loop.invariant.2 ∙ ap (λ ws. form_after loop.count (say_words ws)) last ∙ form-closing loop.count _ closes)))

pub returns-in_default : goal.returns-in_default
returns-in_default c =
    let s = c.args.s.now in
    let loop = c.loop-at in
    let k = c.word_length-k.result in
    let e = c.word_length-k.ensures in
    let none = ap is_names (sym c.word_value-w.ensures.value) ∙ not-names c.word_value-w.result c.in_default.not-Names in
    named (form-says (say_words (words_of c.args.s.now)) _
    (elim c.if-at-k.branch [
      | then-at-k+else-word_closes w ↦
          let unclosed = ap word_closes (sym c.word_value-w.ensures.value) ∙ sym w.word_closes.ensures ∙ w.if-word_closes.false in
          sym (loop.invariant.2 ∙ ap (λ ws. form_after loop.count (say_words ws)) (is_last s loop.at k loop.invariant.0 e w.if-at-k.true) ∙ form-bad loop.count _ _ none unclosed)
      | else-at-k w ↦
          let more : loop.at + k < length s = omega (arith, k-le s loop.at k loop.invariant.0 e, w.if-at-k.false) in
          let y = words-some (drop (loop.at + k + 1) s) in
          sym (loop.invariant.2 ∙ ap (λ ws. form_after loop.count (say_words ws)) (is-more s loop.at k loop.invariant.0 e more) ∙ form-not-last loop.count _ _ none y.0 y.1 y.2)
    ]))

pub overflow_add-at-in-loop-at : goal.overflow_add-at-in-loop-at
overflow_add-at-in-loop-at c = omega (arith, k-le c.args.s.now c.loop-at.at c.word_length-k.result c.loop-at.invariant.0 c.word_length-k.ensures)

pub returns-then-at-k-2 : goal.returns-then-at-k-2
returns-then-at-k-2 c =
    let loop = c.loop-at in
    let last = is_last c.args.s.now loop.at c.word_length-k.result loop.invariant.0 c.word_length-k.ensures c.if-at-k-2.true in
    named (form-says (say_words (words_of c.args.s.now)) _
    (sym (loop.invariant.2 ∙ ap (λ ws. form_after loop.count (say_words ws)) last
    ∙ form-names loop.count _ _ _ (sym c.word_value-w.ensures.value ∙ c.in-Names.is) ∙ form-none (loop.count + 1))))

pub overflow_add-at-in-loop-at-2 : goal.overflow_add-at-in-loop-at-2
overflow_add-at-in-loop-at-2 c = omega (arith, k-le c.args.s.now c.loop-at.at c.word_length-k.result c.loop-at.invariant.0 c.word_length-k.ensures)

pub overflow_add-at-in-loop-at-3 : goal.overflow_add-at-in-loop-at-3
overflow_add-at-in-loop-at-3 c = omega (arith, k-le c.args.s.now c.loop-at.at c.word_length-k.result c.loop-at.invariant.0 c.word_length-k.ensures, c.if-at-k-2.false)

pub loop-at-preserved : goal.loop-at-preserved
loop-at-preserved c =
    let s = c.args.s.now in
    let loop = c.loop-at in
    let k = c.word_length-k.result in
    let e = c.word_length-k.ensures in
    let more : loop.at + k < length s = omega (arith, k-le s loop.at k loop.invariant.0 e, c.if-at-k-2.false) in (
      omega arith,
      omega (arith, loop.invariant.1),
      loop.invariant.2 ∙ ap (λ ws. form_after loop.count (say_words ws)) (is-more s loop.at k loop.invariant.0 e more)
          ∙ form-names loop.count _ _ _ (sym c.word_value-w.ensures.value ∙ c.in-Names.is),
    )
