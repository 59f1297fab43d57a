use mathlib.Core.Path.{refl, sym, ◌∙◌}
use borrow.Author.Rules.{rules}
use Rattle.certify.proofs.read_certificate.Goals as goal

pub loop-turn-init : goal.loop-turn-init
loop-turn-init c = (λ b h. h, refl, refl, refl, sym c.large_buffer-piece.ensures)

pub slice_bounds-read_piece-end : goal.slice_bounds-read_piece-end
slice_bounds-read_piece-end c = sym c.loop-turn.invariant.4

pub loop-turn-preserved : goal.loop-turn-preserved
loop-turn-preserved c =
    let here = c.loop-turn.invariant in
    let fed = c.feed-t in
    (λ b h. fed.ensures.by_index b (here.0 b h), search rules, search rules, search rules, c.read_piece-n.auto.buf ∙ here.4)

pub returns-after-loop-turn : goal.returns-after-loop-turn
returns-after-loop-turn c = c.loop-turn.invariant.0

pub returns-then-n-eq0 : goal.returns-then-n-eq0
returns-then-n-eq0 c = c.loop-turn.invariant.0
