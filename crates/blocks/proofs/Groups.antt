-- How many blocks a group has, and the number of its first. Assumes nothing.
use mathlib.Core.Path.{◌≡◌, ap, ◌∙◌}
use mathlib.Core.Bool.{true, false}
use mathlib.Core.List.{List}
use Prim.Native.Nat.{ℕ, ◌+◌, ◌-◌}
use native.Mathlib.Omega.{arith}
use lib.ListN.{length, take}
use Rattle.model.specs.declared.Group.{Group}
use Rattle.model.specs.declared.Model.{Model}
use Rattle.model.specs.Lists.{total}
use Rattle.model.specs.Limits.{limits}
use Rattle.model.specs.Model.{table_of, Sized}
use Rattle.model.specs.Cnf.{open_count, counted, block_count}
use Rattle.propagation_laws.proofs.Ranges.{InRange}
use Rattle.encoding_laws.specs.Division.{nodes_of, first_block}
use Rattle.encoding_laws.proofs.Blocks.{node-blocks}

pub none-nodes : (g : Group) → counted g ≡ false → nodes_of g ≡ 0
unfolding nodes_of
none-nodes g e = rw e

pub some-nodes : (g : Group) → counted g ≡ true → nodes_of g ≡ open_count g - 1
unfolding nodes_of
some-nodes g e = rw e

-- the first block of group i + 1
pub block_at : (t : List Group) (i next : ℕ) → next ≡ 1 + total nodes_of (take i t) → next ≡ first_block t (1 + i)
unfolding first_block
block_at t i next e = let q : i ≡ 1 + i - 1 = omega arith in e ∙ ap (λ (k : ℕ). 1 + total nodes_of (take k t)) q

-- the last block of a model in range, from the first line's
pub last_block : (m : Model) → InRange m → length m.groups ≡ limits.groups → length m.constraints ≡ limits.constraints
    → (lines : ℕ) → lines ≡ 1 + total nodes_of (take m.s m.groups) → lines - 1 + m.c ≡ block_count m
unfolding block_count table_of
last_block m r g c lines e =
    let sized : Sized m = record { groups = omega (arith, r.group_count); constraints = omega (arith, r.constraint_count) } in
    omega (arith, node-blocks m sized)
