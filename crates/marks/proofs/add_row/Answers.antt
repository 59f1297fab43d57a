use mathlib.Core.Path.{refl}
use native.Mathlib.Omega.{arith}
use Rattle.marks.proofs.Bits.{row_next, row-past}
use Rattle.marks.proofs.add_row.Goals as goal

pub returns-then-g-ge-PLACES : goal.returns-then-g-ge-PLACES
returns-then-g-ge-PLACES c = row-past c.args.index.now c.args.g c.args.marks.now (omega arith)

pub loop-k-preserved : goal.loop-k-preserved
loop-k-preserved c =
    let l = c.loop-k in
    row_next c.args.index.now c.args.g c.args.marks.now (omega arith) l.k l.marks l.invariant (omega arith) _ refl
