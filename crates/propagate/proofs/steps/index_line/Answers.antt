use Rattle.std.proofs.Common.{refl, arith}
use Rattle.propagate.proofs.Indexing.{id_between, line-next}
use Rattle.propagate.proofs.steps.index_line.Goals as goal

pub loop-g-preserved : goal.loop-g-preserved
loop-g-preserved c =
    let l = c.loop-g in
    line-next c.args.j c.args.ids.now l.g-index _ _ _ l.invariant c.loop-g-test.true (omega arith) c.requires.0 _ refl (omega (arith, id_between c.args.ids.now l.g-index c.requires.1 c.loop-g-test.true)) c.mark.ensures
