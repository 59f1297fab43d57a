use mathlib.Core.Path.{sym}
use mathlib.Core.Bool.{true, false}
use Rattle.model.proofs.Loops.{range-goes, range-stops}
use Rattle.sheet.specs.Line.{good_mark}
use Rattle.sheet.proofs.Fields.{mark-good}
use native.Mathlib.Omega.{arith}
use Rattle.sheet.proofs.good_marks.Goals as goal

pub returns-then-high-line : goal.returns-then-high-line
returns-then-high-line c =
    let l = c.loop-e in
    let bad = mark-good c.args.n c.args.line.now c.requires.1 l.e (omega arith) true c.if-high-line.true in
    sym (range-stops (good_mark c.args.line.now) _ c.args.n l.e l.invariant (omega arith) bad)

pub loop-e-preserved : goal.loop-e-preserved
loop-e-preserved c =
    let l = c.loop-e in
    let good = mark-good c.args.n c.args.line.now c.requires.1 l.e (omega arith) false c.if-high-line.false in
    range-goes (good_mark c.args.line.now) _ c.args.n l.e l.invariant (omega arith) good
