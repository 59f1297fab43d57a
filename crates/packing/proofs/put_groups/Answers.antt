-- `put_groups` lays the groups' words at the front, where they fit. Assumes nothing.
use native.Mathlib.Omega.{arith}
use Rattle.packing.proofs.Laid.{fitting}
use Rattle.packing.proofs.put_groups.Goals as goal

pub returns-clause-table_after : goal.returns-clause-table_after
returns-clause-table_after c =
    fitting _ _ _ _ (omega arith) (omega (arith, c.told-groups)) (omega (arith, c.if-table-s.false)) c.lay_groups.ensures.table_after
