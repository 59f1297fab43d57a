-- `put_sheet` writes the three parts. Assumes nothing.
use mathlib.Core.Path.{sym}
use native.Mathlib.Omega.{arith}
use Rattle.model.specs.Model.{table_of, constraints_of}
use Rattle.model.specs.SheetText.{head_fields}
use Rattle.propagation_laws.proofs.Ranges.{in_range_lem}
use Rattle.text.proofs.Writes.{kept, then, same_text}
use Rattle.sheet_writer.proofs.Lengths.{sheet_parts, parts-length}
use Rattle.sheet_writer.proofs.put_sheet.Goals as goal

pub put_head-i-requires : goal.put_head-i-requires
unfolding head_fields table_of constraints_of
put_head-i-requires c = omega (arith, c.requires.m_in_bounds, parts-length c.args.m.now)

pub put_groups-j-requires : goal.put_groups-j-requires
unfolding head_fields table_of constraints_of
put_groups-j-requires c =
    let r = in_range_lem c.args.m.now c.requires.t in
    let w = c.put_head-i.ensures in
    record { n_le_entrants = (r.entrants, r.group_count); s_in_bounds = omega (arith, c.requires.m_in_bounds, parts-length c.args.m.now, w.next, kept w) }

pub put_constraints-requires : goal.put_constraints-requires
unfolding head_fields table_of constraints_of
put_constraints-requires c =
    let r = in_range_lem c.args.m.now c.requires.t in
    let v = c.put_head-i.ensures in
    let w = c.put_groups-j.ensures in
    record { c_le_constraints = r.constraint_count; t = r.constraints; constraints_in_bounds = omega (arith, c.requires.m_in_bounds, parts-length c.args.m.now, v.next, kept v, w.next, kept w) }

pub returns : goal.returns
unfolding head_fields table_of constraints_of
returns c =
    same_text (sym (sheet_parts c.args.m.now))
    (then (then c.put_head-i.ensures c.put_groups-j.ensures) c.put_constraints.ensures)
