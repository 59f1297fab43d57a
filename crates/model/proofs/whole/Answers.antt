-- `whole`: what owning an array tells of its length, and of each of its elements. Assumes nothing.
use mathlib.Core.Path.{◌≡◌}
use mathlib.Core.List.{List, [], ◌∷◌}
use native.Mathlib.Omega.{arith}
use lib.Dec.{T, le→leb}
use lib.ListN.{length}
use mir.Val.{Val}
use denote.Shadow.{shadow}
use denote.Array.{each}
use borrow.Author.Rules.{rules}
use Rattle.model.specs.declared.Constraint.{Constraint}
use Rattle.std.specs.List.{list_all}
use Rattle.model.specs.Limits.{limits}
use Rattle.model.specs.Model.{constraint_sized}
use Rattle.model.proofs.Lists.{and_both}
use Rattle.model.specs.contracts.Constraint.{the_row}
use Rattle.model.proofs.whole.Goals as goal

one : (c : Constraint) (v : Val) → shadow (the_row.own_val c (v ∷ [])) → length c.groups ≡ limits.members
one c v s = search rules

all : (cs : List Constraint) (vs : List Val) → shadow (each Constraint the_row.own_val cs vs) → T (list_all constraint_sized cs)
all [] vs s = tt
all (c ∷ cs) [] s = absurd s
all (c ∷ cs) (v ∷ vs) s =
    and_both (constraint_sized c) (list_all constraint_sized cs) (le→leb limits.members (length c.groups) (omega (arith, one c v s.0))) (all cs vs s.1)

pub returns : goal.returns
returns c =
    let p = c.well_formed.1.0 in
    (omega (arith, c.well_formed), omega (arith, c.well_formed), all c.args.constraints p.0 p.1.1)
