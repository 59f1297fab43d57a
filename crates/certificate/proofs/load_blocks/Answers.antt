use mathlib.Core.Path.{refl, ◌∙◌}
use native.Mathlib.Omega.{arith}
use borrow.Author.Rules.{rules}
use lib.ListN.{length-take}
use Rattle.certificate.proofs.Runs.{last-is, part_loads}
use Rattle.cnf.proofs.Runs.{run_inside}
use Rattle.certificate.proofs.load_blocks.Goals as goal

pub loop-x-init : goal.loop-x-init
loop-x-init c = record { from = c.requires; fits = search rules; bytes = refl; words = refl; numbers = refl; literals = refl; holds = λ q a t h. h }

pub returns-then-r-ne0 : goal.returns-then-r-ne0
returns-then-r-ne0 c = λ q a t h. c.not_loaded.ensures a _ _ _ (c.loop-x.invariant.holds q a t h)

pub returns-then-r-x : goal.returns-then-r-x
returns-then-r-x c = λ q a t h. c.not_loaded-then-r-x.ensures a _ _ _ (c.loop-x.invariant.holds q a t h)

pub slice_bounds-load-end : goal.slice_bounds-load-end
slice_bounds-load-end c =
    let w = c.write_blocks-r in
    omega (arith, run_inside _ _ _ _ _ w.ensures.value w.ensures.buf_after w.auto.buf, w.auto.buf)

pub slice_bounds-load-end-in-loop-x : goal.slice_bounds-load-end-in-loop-x
slice_bounds-load-end-in-loop-x c =
    let w = c.write_blocks-r in
    omega (arith, length-take w.result.length w.new.buf, run_inside _ _ _ _ _ w.ensures.value w.ensures.buf_after w.auto.buf, w.auto.buf)

pub loop-x-preserved : goal.loop-x-preserved
loop-x-preserved c =
    let l = c.load-q in
    let w = c.write_blocks-r in
    let inv = c.loop-x.invariant in
    record {
      from = omega (arith, c.if-r-x.false, inv.from);
      fits = c.struct_known-1.given.1.0.fits;
      bytes = w.auto.buf ∙ inv.bytes;
      words = search rules;
      numbers = search rules;
      literals = search rules;
      holds = λ q a t h. l.ensures a _ (part_loads _ q _ inv.from (omega (arith, c.loop-x-test.true, last-is c.args.m q _ c.block_count-last.ensures.value)) _ _ _ w.ensures.value w.ensures.buf_after a t) (inv.holds q a t h);
    }

pub returns : goal.returns
returns c = c.loop-x.invariant.holds
