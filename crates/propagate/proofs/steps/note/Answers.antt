-- `note` compares a group with the one last seen. Assumes nothing.
use Rattle.std.proofs.Common.{refl, arith}
use Rattle.model.specs.Model.{zero_group}
use Rattle.propagate.proofs.Noting.{not_seen, notes-other}
use Rattle.propagate.proofs.steps.note.Goals as goal

pub returns : goal.returns
unfolding zero_group
returns c =
    notes-other c.args.index.now c.args.i c.args.t.now c.args.seen.now.table _ _ c.requires (omega arith) (not_seen _ _ c.if-eq.ensures) _ refl _ _ c.mark.ensures c.add_row.ensures
