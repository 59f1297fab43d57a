use native.Mathlib.Omega.{arith}
use Rattle.group_lines.proofs.Lines.{at-start, line-end, line-size, stops, one_more, goes, too_few, all_read, of_limits}
use Rattle.group_lines.proofs.read_groups.Goals as goal

pub loop-at-init : goal.loop-at-init
loop-at-init c = at-start c.args.text.now c.min-entrants.result c.min-count.result

pub slice_bounds-read_line-end : goal.slice_bounds-read_line-end
slice_bounds-read_line-end c = line-size c.loop-at.invariant c.loop-at-test.true c.line_length-len.result c.line_length-len.ensures

pub overflow_add-line : goal.overflow_add-line
overflow_add-line c = omega (arith, c.loop-at.invariant.few, c.min-count.ensures)

pub read_line-requires : goal.read_line-requires
read_line-requires c = omega (arith, c.min-entrants.ensures)

pub returns-in-Err : goal.returns-in-Err
returns-in-Err c = of_limits c.args.text.now c.args.n c.args.s c.min-entrants.ensures c.min-count.ensures (stops c.loop-at.invariant c.loop-at-test.true c.line_length-len.result c.line_length-len.ensures _ c.in-Err.ensures)

pub bounds-groups-done : goal.bounds-groups-done
bounds-groups-done c = omega (arith, one_more c.loop-at.invariant c.loop-at-test.true c.line_length-len.result c.line_length-len.ensures _ c.in-Ok.ensures, c.min-count.ensures)

pub overflow_add-at : goal.overflow_add-at
overflow_add-at c = omega (arith, line-end c.loop-at.invariant c.loop-at-test.true c.line_length-len.result c.line_length-len.ensures)

pub loop-at-smaller : goal.loop-at-smaller
loop-at-smaller c = omega (arith, c.next_line-at.ensures, c.loop-at-test.true)

pub loop-at-preserved : goal.loop-at-preserved
loop-at-preserved c = goes c.loop-at.invariant c.loop-at-test.true c.line_length-len.result c.line_length-len.ensures _ c.in-Ok.ensures c.next_line-at.ensures

pub overflow_add-next : goal.overflow_add-next
overflow_add-next c = omega (arith, c.if-done-count.true, c.min-count.ensures)

pub returns-then-done-count : goal.returns-then-done-count
returns-then-done-count c = of_limits c.args.text.now c.args.n c.args.s c.min-entrants.ensures c.min-count.ensures (too_few c.loop-at.invariant c.loop-at-test.false c.if-done-count.true)

pub returns : goal.returns
returns c = of_limits c.args.text.now c.args.n c.args.s c.min-entrants.ensures c.min-count.ensures (all_read c.loop-at.invariant c.loop-at-test.false c.if-done-count.false)
