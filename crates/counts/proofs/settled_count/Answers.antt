-- `settled_count` adds up groups and constraints. Assumes nothing.
use Rattle.numbering.proofs.Models.{first-is}
use Rattle.counts.proofs.Settled.{groups-few, entrants-few, constraints-few, table-groups, table-among, constraints-good, clauses-are}
use Rattle.counts.proofs.settled_count.Goals as goal

pub sum_groups-a-requires : goal.sum_groups-a-requires
sum_groups-a-requires c =
    let m = c.args.m in let q = c.requires in record { s_le_groups = groups-few m q; all = table-groups m q }

pub sum_constraints-b-requires : goal.sum_constraints-b-requires
sum_constraints-b-requires c =
    let m = c.args.m in
    let q = c.requires in record { s_le_groups = (groups-few m q, entrants-few m q, constraints-few m q); all = (table-among m q, first-is m c.of_model-v.result c.of_model-v.ensures); t = constraints-good m q }

pub returns : goal.returns
returns c = clauses-are c.args.m c.requires _ _ c.sum_groups-a.ensures.0 c.sum_constraints-b.ensures.0
