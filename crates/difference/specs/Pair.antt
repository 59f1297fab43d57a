-- A code 7 constraint, told from its first two groups.
use Rattle.std.specs.Prelude.{ℕ, ◌-◌, Bool, cond, not, ◌&&◌, eqb, ltb}
use Rattle.model.specs.declared.Group.{Group}
use Rattle.model.specs.declared.Constraint.{Constraint}
use Rattle.model.specs.Limits.{limits}
use Rattle.model.specs.Model.{zero_group}
use Rattle.model.specs.Difference.{apart}
use Rattle.model.specs.Cnf.{either_open}

-- group g of the first s, where f stands at its index
unfoldable pub member_of : ℕ → ℕ → Group → Group
member_of s g f = cond (ltb (g - 1) s && ltb (g - 1) limits.groups) f zero_group

-- whether an entrant of the two differs already, and who has a variable X
unfoldable pub apart_of : Constraint → Group → Group → Bool
apart_of c f g = eqb c.code 7 && not (eqb (apart f g) 0)

unfoldable pub differing_of : Constraint → Group → Group → ℕ
differing_of c f g = cond (eqb c.code 7) (cond (eqb (apart f g) 0) (either_open f g) 0) 0
