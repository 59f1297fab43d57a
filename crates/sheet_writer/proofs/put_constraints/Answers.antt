use native.Mathlib.Omega.{arith}
use lib.ListN.{take}
use Rattle.model.specs.Model.{constraint_in_range}
use Rattle.model.proofs.Lists.{every-getD}
use Rattle.model.proofs.Codes.{member-bound}
use Rattle.propagation_laws.proofs.Ranges.{constraint-code}
use Rattle.sheet_writer.specs.Parts.{constraint_text}
use Rattle.sheet_writer.proofs.Writes.{turn, room-all}
use Rattle.sheet_writer.proofs.put_constraints.Goals as goal

pub put_constraint-k-requires : goal.put_constraint-k-requires
put_constraint-k-requires c =
    let l = c.loop-x in
    let cs = take c.args.c c.args.constraints.now in
    record {
      count_bound = member-bound _ _ (constraint-code c.args.s _ (every-getD (constraint_in_range c.args.s) cs _ l.x-index c.requires.t (omega arith)));
      c_in_bounds = room-all constraint_text _ cs l.x-index (omega arith) l.invariant c.requires.constraints_in_bounds;
    }

pub loop-x-preserved : goal.loop-x-preserved
loop-x-preserved c =
    turn constraint_text _ (take c.args.c c.args.constraints.now) c.loop-x.x-index (omega arith) c.loop-x.invariant c.put_constraint-k.ensures
