use Prim.Native.Nat.{◌<◌, ◌+◌}
use mathlib.Core.Path.{◌∙◌, sym, ap}
use lib.ListN.{length}
use Rattle.line_form.proofs.Forms.{is_names, not-names}
use Rattle.literals.proofs.Named.{write-start, write-le, write-size, write-end, write-named, write-fits, write-last, write-more}
use native.Mathlib.Omega.{arith}
use Rattle.literals.proofs.write_literals.Goals as goal

pub loop-count-init : goal.loop-count-init
loop-count-init c = write-start _ _ _ c.requires

pub slice_bounds-word_value-end : goal.slice_bounds-word_value-end
slice_bounds-word_value-end c = write-size c.loop-count.invariant c.loop-count-test.true c.word_length-k.ensures

pub returns-in_default : goal.returns-in_default
returns-in_default c =
    write-end c.loop-count.invariant c.loop-count-test.true c.word_length-k.ensures
    (ap is_names (sym c.word_value.ensures.value) ∙ not-names c.word_value.result c.in_default.not-Names)

pub overflow_sub-i : goal.overflow_sub-i
overflow_sub-i c =
    write-named c.loop-count.invariant c.loop-count-test.true c.word_length-k.ensures (sym c.word_value.ensures.value ∙ c.in-Names.is) c.variable_of.ensures

pub bounds-values-i : goal.bounds-values-i
bounds-values-i c =
    let is = sym c.word_value.ensures.value ∙ c.in-Names.is in
    omega (
      arith,
      write-named c.loop-count.invariant c.loop-count-test.true c.word_length-k.ensures is c.variable_of.ensures,
      write-fits c.loop-count.invariant c.loop-count-test.true c.word_length-k.ensures is c.variable_of.ensures,
    )

pub overflow_add-at : goal.overflow_add-at
overflow_add-at c = omega (arith, write-le c.loop-count.invariant c.loop-count-test.true c.word_length-k.ensures)

pub returns-then-at-k : goal.returns-then-at-k
returns-then-at-k c =
    write-last c.loop-count.invariant c.loop-count-test.true c.word_length-k.ensures (sym c.word_value.ensures.value ∙ c.in-Names.is) c.variable_of.ensures
    c.value_for.ensures c.if-at-k.true

pub overflow_add-at-in-loop-count : goal.overflow_add-at-in-loop-count
overflow_add-at-in-loop-count c = omega (arith, write-le c.loop-count.invariant c.loop-count-test.true c.word_length-k.ensures)

pub overflow_add-at-in-loop-count-2 : goal.overflow_add-at-in-loop-count-2
overflow_add-at-in-loop-count-2 c = omega (arith, write-le c.loop-count.invariant c.loop-count-test.true c.word_length-k.ensures, c.if-at-k.false)

pub loop-count-preserved : goal.loop-count-preserved
loop-count-preserved c =
    let more : c.loop-count.at + c.word_length-k.result < length c.args.s.now = omega (arith, write-le c.loop-count.invariant c.loop-count-test.true c.word_length-k.ensures, c.if-at-k.false) in
    write-more c.loop-count.invariant c.loop-count-test.true c.word_length-k.ensures (sym c.word_value.ensures.value ∙ c.in-Names.is) c.variable_of.ensures
    c.value_for.ensures more
