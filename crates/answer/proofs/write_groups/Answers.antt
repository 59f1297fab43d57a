-- `write_groups` writes to an array that holds every text, and copies what fits. Assumes nothing.
use Prim.Native.Nat.{◌≤◌}
use native.Mathlib.Omega.{arith}
use Rattle.answer.proofs.Groups.{groups-length, copied, with_number}
use Rattle.answer.proofs.write_groups.Goals as goal

-- the clauses by their names
named : {A B C : Type 0} → A × (B × C) → record { value : A; buf_after : B; result_value : C }
named p = record { value = p.0; buf_after = p.1.0; result_value = p.1.1 }

pub put_groups-n-requires : goal.put_groups-n-requires
put_groups-n-requires c =
    let few : c.min.result ≤ 256 = omega (arith, c.min.ensures) in
    record { k_le_groups = few; k_in_bounds = omega (arith, groups-length c.args.words c.min.result few, c.space-all.ensures) }

pub returns : goal.returns
returns c = named (with_number _ _ _ _ (copied c.args.words c.args.s c.min.ensures c.put_groups-n.ensures c.args.buf.now c.copy_out.ensures.value c.copy_out.ensures.buf_after))
