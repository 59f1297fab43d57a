use Rattle.std.proofs.Common.{refl, arith}
use Rattle.propagate.proofs.Indexing.{id_between}
use Rattle.propagate.proofs.Noting.{members-next, members-end}
use Rattle.propagate.proofs.steps.note_members.Goals as goal

pub loop-g-preserved : goal.loop-g-preserved
loop-g-preserved c =
    let l = c.loop-g in
    members-next c.args.ids.now _ _ _ _ _ l.g-index l.changed _ _ _ l.invariant c.loop-g-test.true _ refl (omega (arith, id_between c.args.ids.now l.g-index c.requires.0 c.loop-g-test.true)) _ _ _ _ c.note-moved.ensures

pub returns : goal.returns
returns c =
    let l = c.loop-g in
    members-end c.args.ids.now _ _ _ _ _ l.g-index l.changed _ _ _ l.invariant (omega arith) (omega arith)
