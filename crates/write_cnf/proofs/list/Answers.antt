use mathlib.Core.Path.{sym, ◌∙◌}
use mathlib.Core.Bool.{Bool, true, false, cond}
use Prim.Native.Nat.{ℕ, ◌≤◌}
use native.Mathlib.Omega.{arith}
use lib.ListN.{length-take}
use Rattle.model.specs.Model.{in_range}
use Rattle.model.specs.Cnf.{block_count}
use Rattle.cnf.proofs.Runs.{run-moves, run_inside}
use Rattle.write_cnf.proofs.list.Goals as goal

-- the last block of a model in range, and 0, are no more than its blocks
no_more : (x : Bool) (k : ℕ) → cond x k 0 ≤ k
no_more true k = omega arith
no_more false k = omega arith

pub loop-b-init : goal.loop-b-init
loop-b-init c = c.space-piece.ensures

pub slice_bounds-write_blocks-end : goal.slice_bounds-write_blocks-end
slice_bounds-write_blocks-end c = sym c.loop-b.invariant

pub slice_bounds-piece-end : goal.slice_bounds-piece-end
slice_bounds-piece-end c =
    let w = c.write_blocks-r in
    omega (arith, run_inside _ _ _ _ _ w.ensures.value w.ensures.buf_after w.auto.buf, w.auto.buf)

pub slice_bounds-write-end : goal.slice_bounds-write-end
slice_bounds-write-end c =
    let w = c.write_blocks-r in
    omega (arith, length-take w.result.length w.new.buf, run_inside _ _ _ _ _ w.ensures.value w.ensures.buf_after w.auto.buf, w.auto.buf)

pub loop-b-smaller : goal.loop-b-smaller
loop-b-smaller c =
    let m = c.args.m in
    let k = c.block_count-last.ensures.value in
    let h = no_more (in_range m) (block_count m) in
    let n = run-moves m c.loop-b.b _ _ c.write_blocks-r.ensures.value c.if-r-ne0.false (omega (arith, c.loop-b-test.true)) in
    omega (arith, n, c.loop-b-test.true)

pub loop-b-preserved : goal.loop-b-preserved
loop-b-preserved c = c.write_blocks-r.auto.buf ∙ c.loop-b.invariant
