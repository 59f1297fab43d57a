use Rattle.std.proofs.Common.{rules}
use Rattle.loading.proofs.Loads.{loading_start, loading-next}
use Rattle.loading.proofs.load.Goals as goal

pub loop-at-init : goal.loop-at-init
loop-at-init c = loading_start

pub loop-at-preserved : goal.loop-at-preserved
loop-at-preserved c =
    loading-next c.loop-at.invariant c.loop-at-test.true _ _ c.word_end-k.ensures.value c.read_word-p.ensures c.take_piece-q.ensures
    (search rules) (search rules) (search rules)
