use Prim.Native.Nat.{◌<◌}
use mathlib.Core.Path.{refl, sym, ◌∙◌}
use native.Mathlib.Omega.{arith}
use Rattle.marks.proofs.Bits.{none-next, some_next, next_skips, next_here, next_past}
use Rattle.marks.proofs.next.Goals as goal

pub returns-then-q-e : goal.returns-then-q-e
returns-then-q-e c =
    let m = c.args.marks.now in
    let q = c.loop-q.q in
    let low : q < 256 = omega arith in
    sym
    (c.loop-q.invariant
    ∙ next_skips m q _ (omega arith) (omega arith) (none-next m q _ refl _ (omega arith) (omega arith))
    ∙ next_here m _ (omega arith) (some_next m q _ refl c.if-q-e.true))

pub loop-q-preserved : goal.loop-q-preserved
loop-q-preserved c =
    let m = c.args.marks.now in
    let q = c.loop-q.q in
    c.loop-q.invariant ∙ next_skips m q _ (omega arith) (omega arith) (none-next m q _ refl _ (omega arith) (omega arith))

pub returns : goal.returns
returns c = sym (c.loop-q.invariant ∙ next_past _ _ (omega arith))
