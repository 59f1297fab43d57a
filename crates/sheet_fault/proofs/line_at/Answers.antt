use Prim.Native.Nat.{suc, ◌-◌, ◌+◌}
use mathlib.Core.Path.{◌≡◌, sym, ap, ◌∙◌}
use native.Mathlib.Omega.{arith}
use lib.ListN.{drop}
use Rattle.sheet_fault.specs.Fault.{line_at}
use Rattle.sheet_fault.proofs.Lines.{line-size, line-here, line_on}
use Rattle.sheet_fault.proofs.line_at.Goals as goal

pub loop-line-preserved : goal.loop-line-preserved
loop-line-preserved c = let b = c.args.sheet.now in
    let l = c.loop-line in
    let one : c.args.done - l._line ≡ suc (c.args.done - (l._line + 1)) = omega (arith, c.loop-line-test.true) in
    (omega (arith, c.next_line-at.ensures), l.invariant.1 ∙ ap (line_at (drop l.at b)) one ∙ line_on b l.at c.next_line-at.result c.next_line-at.ensures (c.args.done - (l._line + 1)))

pub slice_bounds-result-end : goal.slice_bounds-result-end
slice_bounds-result-end c = line-size c.args.sheet.now c.loop-line.at c.loop-line.invariant.0 c.line_length-n.result c.line_length-n.ensures

pub returns : goal.returns
returns c = let b = c.args.sheet.now in
    let z : c.args.done - c.loop-line._line ≡ 0 = omega (arith, c.loop-line-test.false) in
    line-here b c.loop-line.at c.loop-line.invariant.0 c.line_length-n.result c.line_length-n.ensures ∙ sym (c.loop-line.invariant.1 ∙ ap (line_at (drop c.loop-line.at b)) z)
