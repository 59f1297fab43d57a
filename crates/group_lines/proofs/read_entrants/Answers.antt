use Prim.Native.Nat.{◌+◌}
use mathlib.Core.Path.{refl}
use native.Mathlib.Omega.{arith}
use Rattle.line_form.proofs.Words.{word_size}
use Rattle.group_lines.proofs.Entrants.{inside-next, bad, past, twice, next, all_read}
use Rattle.group_lines.proofs.read_entrants.Goals as goal

pub loop-at-init : goal.loop-at-init
loop-at-init c = record { place = c.requires.0; rest = refl }

pub slice_bounds-number_in-end : goal.slice_bounds-number_in-end
slice_bounds-number_in-end c = word_size c.args.line.now (c.loop-at.at + 1) c.word_length-k.result (omega arith) c.word_length-k.ensures

pub returns-then-e-eq0 : goal.returns-then-e-eq0
returns-then-e-eq0 c = bad c.loop-at.invariant c.loop-at-test.true c.word_length-k.result c.word_length-k.ensures c.number_in-e.result c.number_in-e.ensures c.if-e-eq0.true

pub returns-then-n-e : goal.returns-then-n-e
returns-then-n-e c = past c.loop-at.invariant c.loop-at-test.true c.word_length-k.result c.word_length-k.ensures c.number_in-e.result c.number_in-e.ensures c.if-e-eq0.false c.if-n-e.true

pub overflow_shr-word : goal.overflow_shr-word
overflow_shr-word c = omega (arith, c.if-n-e.false, c.if-e-eq0.false, c.requires.1)

pub returns-then-word-e-eq1 : goal.returns-then-word-e-eq1
returns-then-word-e-eq1 c = twice c.loop-at.invariant c.loop-at-test.true c.word_length-k.result c.word_length-k.ensures c.number_in-e.result c.number_in-e.ensures c.if-e-eq0.false c.if-n-e.false c.if-word-e-eq1.true

pub overflow_shl-word : goal.overflow_shl-word
overflow_shl-word c = omega (arith, c.if-n-e.false, c.if-e-eq0.false, c.requires.1)

pub overflow_add-at-in-loop-at : goal.overflow_add-at-in-loop-at
overflow_add-at-in-loop-at c = omega (arith, inside-next c.loop-at.invariant c.loop-at-test.true c.word_length-k.result c.word_length-k.ensures)

pub loop-at-smaller : goal.loop-at-smaller
loop-at-smaller c = omega (arith, inside-next c.loop-at.invariant c.loop-at-test.true c.word_length-k.result c.word_length-k.ensures)

pub loop-at-preserved : goal.loop-at-preserved
loop-at-preserved c = next c.loop-at.invariant c.loop-at-test.true c.word_length-k.result c.word_length-k.ensures c.number_in-e.result c.number_in-e.ensures c.if-e-eq0.false c.if-n-e.false c.if-word-e-eq1.false c.requires.1

pub returns : goal.returns
returns c = all_read c.loop-at.invariant c.loop-at-test.false
