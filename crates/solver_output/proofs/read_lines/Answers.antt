use mathlib.Core.Path.{refl, sym, ◌∙◌}
use lib.ListN.{take}
use Rattle.lines.proofs.Lines.{no_bytes, more_bytes, read-from}
use Rattle.solver_output.proofs.read_lines.Goals as goal

pub loop-turn-init : goal.loop-turn-init
loop-turn-init c = (no_bytes _ _ _ c.start-cut.ensures, c.room-space.ensures, refl, sym c.large_buffer-piece.ensures)

pub slice_bounds-read_piece-end : goal.slice_bounds-read_piece-end
slice_bounds-read_piece-end c = sym c.loop-turn.invariant.3

pub slice_bounds-take_piece-end-in-loop-turn : goal.slice_bounds-take_piece-end-in-loop-turn
slice_bounds-take_piece-end-in-loop-turn c = sym c.loop-turn.invariant.1

pub loop-turn-preserved : goal.loop-turn-preserved
loop-turn-preserved c =
    let here = c.loop-turn.invariant in
    let taken = c.take_piece-cut in (
      more_bytes here.0 (take c.read_piece-n.result c.read_piece-n.new.buf) _ _ _ taken.ensures.value taken.ensures.space_after taken.ensures.values_after,
      taken.auto.space ∙ here.1,
      taken.auto.values ∙ here.2,
      c.read_piece-n.auto.buf ∙ here.3,
    )

pub slice_bounds-finish-end : goal.slice_bounds-finish-end
slice_bounds-finish-end c = sym c.loop-turn.invariant.1

pub returns : goal.returns
returns c =
    let last = c.finish-last.ensures in
    rw c.room-space.ensures at (read-from c.loop-turn.invariant.0 _ _ last.value last.values_after)
