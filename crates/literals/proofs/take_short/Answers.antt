use Prim.Native.Nat.{◌<◌, ◌+◌}
use mathlib.Core.Path.{◌∙◌, sym, ap}
use lib.ListN.{length}
use Rattle.line_form.proofs.Forms.{is_names, not-names}
use Rattle.literals.specs.Line.{refusal_of}
use Rattle.literals.proofs.Named.{is_free}
use Rattle.literals.proofs.Taken.{take_done, take-end, take-le, take-size, take-named, take-room, take-bad, take_within, take_last, take_more}
use native.Mathlib.Omega.{arith}
use Rattle.literals.proofs.take_short.Goals as goal

-- the clauses by their names
named : {A B : Type 0} → A × B → record { value : A; values_after : B }
named p = record { value = p.0; values_after = p.1 }

pub slice_bounds-word_value-end : goal.slice_bounds-word_value-end
slice_bounds-word_value-end c = take-size c.loop-count.invariant c.loop-count-test.true c.word_length-k.ensures

pub returns-in_default : goal.returns-in_default
returns-in_default c = named (take-end c.loop-count.invariant c.loop-count-test.true c.word_length-k.ensures
    (ap is_names (sym c.word_value.ensures.value) ∙ not-names c.word_value.result c.in_default.not-Names) _ c.put_back.ensures)

pub place_of-p-requires : goal.place_of-p-requires
place_of-p-requires c =
    take-named c.loop-count.invariant c.loop-count-test.true c.word_length-k.ensures (sym c.word_value.ensures.value ∙ c.in-Names.is) c.variable_of-v.ensures

pub returns-in-Err : goal.returns-in-Err
returns-in-Err c =
    let is = sym c.word_value.ensures.value ∙ c.in-Names.is in
    named (take-bad c.loop-count.invariant c.loop-count-test.true c.word_length-k.ensures is c.variable_of-v.ensures c.place_of-p.ensures.value
    (ap is_free c.in-Err.is) _ (sym (ap refusal_of c.in-Err.is)) _ c.put_back-in-Err.ensures)

pub overflow_sub-places : goal.overflow_sub-places
overflow_sub-places c =
    take-named c.loop-count.invariant c.loop-count-test.true c.word_length-k.ensures (sym c.word_value.ensures.value ∙ c.in-Names.is) c.variable_of-v.ensures

pub bounds-places-count : goal.bounds-places-count
bounds-places-count c =
    take-room c.loop-count.invariant c.loop-count-test.true c.word_length-k.ensures (sym c.word_value.ensures.value ∙ c.in-Names.is) c.variable_of-v.ensures c.requires

pub bounds-values-i : goal.bounds-values-i
bounds-values-i c =
    let is = sym c.word_value.ensures.value ∙ c.in-Names.is in
    take_within c.loop-count.invariant c.loop-count-test.true c.word_length-k.ensures is c.variable_of-v.ensures c.place_of-p.ensures.value c.in-Ok.is

pub bounds-bytes-count : goal.bounds-bytes-count
bounds-bytes-count c =
    take-room c.loop-count.invariant c.loop-count-test.true c.word_length-k.ensures (sym c.word_value.ensures.value ∙ c.in-Names.is) c.variable_of-v.ensures c.requires

pub bounds-values-i-in-loop-count : goal.bounds-values-i-in-loop-count
bounds-values-i-in-loop-count c =
    let is = sym c.word_value.ensures.value ∙ c.in-Names.is in
    take_within c.loop-count.invariant c.loop-count-test.true c.word_length-k.ensures is c.variable_of-v.ensures c.place_of-p.ensures.value c.in-Ok.is

pub overflow_add-at : goal.overflow_add-at
overflow_add-at c = omega (arith, take-le c.loop-count.invariant c.loop-count-test.true c.word_length-k.ensures)

pub returns-then-at-k : goal.returns-then-at-k
returns-then-at-k c =
    let is = sym c.word_value.ensures.value ∙ c.in-Names.is in
    let both = take_last c.loop-count.invariant c.loop-count-test.true c.word_length-k.ensures is c.variable_of-v.ensures c.place_of-p.ensures.value c.in-Ok.is
    c.value_for.ensures c.if-at-k.true in
    record { value = both.0; values_after = both.1 }

pub overflow_add-at-in-loop-count : goal.overflow_add-at-in-loop-count
overflow_add-at-in-loop-count c = omega (arith, take-le c.loop-count.invariant c.loop-count-test.true c.word_length-k.ensures)

pub overflow_add-at-in-loop-count-2 : goal.overflow_add-at-in-loop-count-2
overflow_add-at-in-loop-count-2 c = omega (arith, take-le c.loop-count.invariant c.loop-count-test.true c.word_length-k.ensures, c.if-at-k.false)

pub loop-count-preserved : goal.loop-count-preserved
loop-count-preserved c =
    let word = c.word_length-k in
    let is = sym c.word_value.ensures.value ∙ c.in-Names.is in
    let more : c.loop-count.at + word.result < length c.args.s.now = omega (arith, take-le c.loop-count.invariant c.loop-count-test.true word.ensures, c.if-at-k.false) in
    take_more c.loop-count.invariant c.loop-count-test.true word.ensures is c.variable_of-v.ensures c.place_of-p.ensures.value c.in-Ok.is
    c.value_for.ensures more c.requires

pub returns : goal.returns
returns c =
    let both = take_done c.loop-count.invariant (omega (arith, c.loop-count-test.false)) in
    record { value = both.0; values_after = both.1 }
