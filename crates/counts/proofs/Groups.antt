-- Laws of a group's clauses, and of the sums over groups. Assumes nothing.
use mathlib.Core.Path.{◌≡◌, ap, ◌∙◌}
use mathlib.Core.Bool.{true, false}
use mathlib.Core.List.{List, [], ◌∷◌}
use Prim.Native.Nat.{ℕ, ◌+◌, ◌-◌, ◌≤◌, ◌<◌}
use native.Mathlib.Omega.{arith}
use lib.ListN.{length, get_or, take}
use Rattle.model.specs.declared.Group.{Group}
use Rattle.model.specs.Lists.{total}
use Rattle.model.specs.Model.{zero_group}
use Rattle.model.specs.Totalizer.{tree_clause_count}
use Rattle.model.specs.Cnf.{open_count, at_least, at_most, counted, group_clause_count}
use Rattle.model.specs.Limits.{limits}
use Rattle.model.proofs.Lists.{total-append}
use Rattle.encoding_laws.proofs.Fixpoint.{SettledAmong}
use Rattle.encoding_laws.proofs.Whole.{OpenLimits, limits_of_lem}
use Rattle.numbering.proofs.Arrays.{next-take}

-- ---- one group

pub none-clauses : (g : Group) → counted g ≡ false → group_clause_count g ≡ 0
unfolding group_clause_count
none-clauses g e = rw e

pub some-clauses : (g : Group) → counted g ≡ true → group_clause_count g ≡ tree_clause_count (open_count g) + at_least g + (open_count g - at_most g)
unfolding group_clause_count
some-clauses g e = rw e

module _ (g : Group) (s : SettledAmong limits.entrants g) where
  abbrev open-limits : OpenLimits g
  open-limits = limits_of_lem g s.group

  pub low-few : at_least g ≤ open_count g
  low-few = open-limits.low-open

  pub high-few : at_most g ≤ open_count g
  high-few = open-limits.high-open

-- ---- one group more

pub count_next : (t : List Group) (i : ℕ) → i < length t → total group_clause_count (take (i + 1) t) ≡ total group_clause_count (take i t) + group_clause_count (get_or t i zero_group)
count_next t i h =
    ap (total group_clause_count) (next-take t i zero_group h)
    ∙ total-append group_clause_count (take i t) (get_or t i zero_group ∷ [])
    ∙ omega arith
