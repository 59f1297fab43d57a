-- `sheet_length` adds up the three parts, by `sheet-length`. Assumes nothing.
use mathlib.Core.Path.{◌≡◌, sym, ap₂, ◌∙◌}
use Prim.Native.Nat.{ℕ, ◌+◌, ◌*◌, ◌≤◌}
use native.Mathlib.Omega.{arith}
use lib.Dec.{T}
use Rattle.model.specs.declared.Model.{Model}
use Rattle.model.specs.Limits.{limits}
use Rattle.model.specs.Model.{constraints_of, in_range}
use Rattle.propagation_laws.proofs.Ranges.{in_range_lem}
use Rattle.sheet_writer.specs.Parts.{line_length}
use Rattle.sheet_writer.proofs.Lengths.{sheet-length, groups-bound}
use Rattle.sheet_writer.proofs.sheet_length.Goals as goal

groups-small : (m : Model) → T (in_range m) → (row : ℕ) → row ≡ line_length (4 + m.n) → m.s * row ≤ limits.groups * line_length (4 + limits.narrow)
groups-small m t row e = rw e (groups-bound m (in_range_lem m t))

pub constraints_length-lines-requires : goal.constraints_length-lines-requires
unfolding constraints_of
constraints_length-lines-requires c =
    let r = in_range_lem c.args.m.now c.requires in
    record { c_le_constraints = (r.constraint_count, r.group_count); t = r.constraints }

pub line_length-row-requires : goal.line_length-row-requires
line_length-row-requires c = omega (arith, (in_range_lem c.args.m.now c.requires).entrants)

pub overflow_mul-result : goal.overflow_mul-result
overflow_mul-result c =
    record { fits = omega (arith, groups-small c.args.m.now c.requires _ c.line_length-row.ensures) }

pub overflow_add-result : goal.overflow_add-result
overflow_add-result c =
    record { fits = omega (arith, groups-small c.args.m.now c.requires _ c.line_length-row.ensures, c.line_length.ensures) }

pub overflow_add-result-2 : goal.overflow_add-result-2
overflow_add-result-2 c =
    record { fits = omega (arith, groups-small c.args.m.now c.requires _ c.line_length-row.ensures, c.line_length.ensures, c.constraints_length-lines.ensures.1, (in_range_lem c.args.m.now c.requires).constraint_count) }

pub returns : goal.returns
unfolding constraints_of
returns c =
    ap₂ (λ (x y : ℕ). x + y) (ap₂ (λ (x y : ℕ). x + c.args.m.now.s * y) c.line_length.ensures c.line_length-row.ensures)
    c.constraints_length-lines.ensures.0
    ∙ sym (sheet-length c.args.m.now (in_range_lem c.args.m.now c.requires))
