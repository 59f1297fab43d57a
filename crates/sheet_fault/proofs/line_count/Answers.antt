use native.Mathlib.Omega.{arith}
use Rattle.sheet_fault.proofs.Lines.{one_line}
use Rattle.sheet_fault.proofs.line_count.Goals as goal

pub loop-at-preserved : goal.loop-at-preserved
loop-at-preserved c = let b = c.args.sheet.now in
    let o = one_line b c.loop-at.at c.next_line-at.result c.next_line-at.ensures c.loop-at-test.true in
    (omega (arith, c.next_line-at.ensures), omega (arith, c.next_line-at.ensures, c.loop-at.invariant.1, c.loop-at-test.true), omega (arith, o, c.loop-at.invariant.2))
