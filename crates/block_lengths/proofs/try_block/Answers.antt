-- `try_block` stays in bounds, and a text is no longer than its buffer. Assumes nothing.
use lib.ListN.{length-take}
use mathlib.Core.Path.{sym, ◌∙◌}
use native.Mathlib.Omega.{arith}
use Rattle.block_lengths.proofs.Inside.{written-inside}
use Rattle.block_lengths.proofs.try_block.Goals as goal

pub slice_bounds-write_block-end : goal.slice_bounds-write_block-end
slice_bounds-write_block-end c = simp length-take (omega (arith, c.filled-all.ensures))

pub returns-in-Bytes : goal.returns-in-Bytes
returns-in-Bytes c =
    let w = c.write_block-w in
    let n = written-inside _ _ c.in-Bytes.n _ _ (sym c.in-Bytes.is ∙ w.ensures.value) w.ensures.buf_after w.auto.buf in
    omega (arith, simp length-take at n)
