-- `unsettled` is refusal 20, then 22. Assumes nothing.
use borrow.Author.Tests.{not-true, not-false}
use Rattle.propagate.proofs.Passes.{range-false, range-true, unsettled_20, untenable-22, changed-22, settled-0}
use Rattle.propagate.proofs.unsettled.Goals as goal

pub returns-then-not-in_range : goal.returns-then-not-in_range
returns-then-not-in_range c = unsettled_20 c.args.m (range-false c.args.m _ c.in_range.ensures c.if-not-in_range.true)

pub returns-then-not-p : goal.returns-then-not-p
returns-then-not-p c =
    let m = c.args.m in
    untenable-22 m (range-true m _ c.in_range.ensures c.if-not-in_range.false) _ _ _ c.passed-p.ensures (not-true _ c.if-not-p.true)

pub returns-then-not-p-2 : goal.returns-then-not-p-2
returns-then-not-p-2 c =
    let m = c.args.m in
    changed-22 m (range-true m _ c.in_range.ensures c.if-not-in_range.false) _ _ _ c.passed-p.ensures (not-false _ c.if-not-p.false) (not-true _ c.if-not-p-2.true)

pub returns : goal.returns
returns c =
    let m = c.args.m in
    settled-0 m (range-true m _ c.in_range.ensures c.if-not-in_range.false) _ _ _ c.passed-p.ensures (not-false _ c.if-not-p.false) (not-false _ c.if-not-p-2.false)
