use Prim.Native.Nat.{◌<◌, ◌+◌}
use mathlib.Core.Path.{◌∙◌, sym, ap}
use lib.ListN.{length}
use Rattle.line_form.proofs.Words.{k-le, word_size}
use Rattle.line_form.proofs.Forms.{is_names, not-names}
use Rattle.literals.proofs.Named.{look-end, look-found, look-last, look-more}
use native.Mathlib.Omega.{arith}
use Rattle.literals.proofs.named_before.Goals as goal

pub slice_bounds-word_value-end : goal.slice_bounds-word_value-end
slice_bounds-word_value-end c = word_size c.args.s.now c.loop-i.at c.word_length-k.result c.loop-i.invariant.0 c.word_length-k.ensures

pub returns-in_default : goal.returns-in_default
returns-in_default c = sym (look-end c.args.s.now c.args.v c.loop-i.at c.word_length-k.result c.loop-i.invariant.0 c.word_length-k.ensures c.args.count c.loop-i.i c.loop-i-test.true _ c.loop-i.invariant.2 (ap is_names (sym c.word_value.ensures.value) ∙ not-names c.word_value.result c.in_default.not-Names))

pub returns-then-variable_of-v : goal.returns-then-variable_of-v
returns-then-variable_of-v c = sym (look-found c.args.s.now c.args.v c.loop-i.at c.word_length-k.result c.loop-i.invariant.0 c.word_length-k.ensures c.args.count c.loop-i.i c.loop-i-test.true _ c.loop-i.invariant.2 _ (sym c.word_value.ensures.value ∙ c.in-Names.is) c.variable_of.result c.variable_of.ensures c.if-variable_of-v.true)

pub overflow_add-at : goal.overflow_add-at
overflow_add-at c = omega (arith, k-le c.args.s.now c.loop-i.at c.word_length-k.result c.loop-i.invariant.0 c.word_length-k.ensures)

pub returns-then-at-k : goal.returns-then-at-k
returns-then-at-k c = sym (look-last c.args.s.now c.args.v c.loop-i.at c.word_length-k.result c.loop-i.invariant.0 c.word_length-k.ensures c.args.count c.loop-i.i c.loop-i-test.true _ c.loop-i.invariant.2 _ (sym c.word_value.ensures.value ∙ c.in-Names.is) c.variable_of.result c.variable_of.ensures c.if-variable_of-v.false c.if-at-k.true)

pub overflow_add-at-in-loop-i : goal.overflow_add-at-in-loop-i
overflow_add-at-in-loop-i c = omega (arith, k-le c.args.s.now c.loop-i.at c.word_length-k.result c.loop-i.invariant.0 c.word_length-k.ensures)

pub overflow_add-at-in-loop-i-2 : goal.overflow_add-at-in-loop-i-2
overflow_add-at-in-loop-i-2 c = omega (arith, k-le c.args.s.now c.loop-i.at c.word_length-k.result c.loop-i.invariant.0 c.word_length-k.ensures, c.if-at-k.false)

pub loop-i-preserved : goal.loop-i-preserved
loop-i-preserved c = let h : c.loop-i.at + c.word_length-k.result < length c.args.s.now = omega (arith, k-le c.args.s.now c.loop-i.at c.word_length-k.result c.loop-i.invariant.0 c.word_length-k.ensures, c.if-at-k.false) in (omega arith, omega arith, look-more c.args.s.now c.args.v c.loop-i.at c.word_length-k.result c.loop-i.invariant.0 c.word_length-k.ensures c.args.count c.loop-i.i c.loop-i-test.true _ c.loop-i.invariant.2 _ (sym c.word_value.ensures.value ∙ c.in-Names.is) c.variable_of.result c.variable_of.ensures c.if-variable_of-v.false h)
