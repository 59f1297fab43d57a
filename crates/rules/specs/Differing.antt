-- What the rule of a line of code 7 does to a table, in the words of request 6.
use Rattle.std.specs.Prelude.{ℕ, ◌-◌, ◌<◌, ◌≡◌, List, length, get_or}
use Rattle.model.specs.declared.Group.{Group}
use Rattle.model.specs.declared.Constraint.{Constraint}
use Rattle.model.specs.Words.{bit}
use Rattle.model.specs.Model.{group_at}
use Rattle.model.specs.Difference.{unlike_in, lone}
use Rattle.propagation_laws.proofs.NothingElse.{NothingElse}
use Rattle.propagation_laws.proofs.DifferenceRule.{Opposite}

-- the entrant may be in the group, and is not fixed there
abbrev pub OpenIn : ℕ → Group → Type 0
OpenIn e g = (bit e g.fixed ≡ 0) × (bit e g.possible ≡ 1)

-- f and g are the numbers of the two groups, w the one entrant who is not settled alike, or nobody; t is the table before, u after
pub record Differs (f g w : ℕ) (t u : List Group) : Type 0 where
  -- "it is then settled the opposite way in the other"
  pub acts : (e : ℕ) → f - 1 < length t → g - 1 < length t → bit e w ≡ 1 → Opposite e (group_at t f) (group_at t g) (group_at u f) (group_at u g)
  -- "Settling acts only where all entrants but one are settled alike and that one is settled in one of the groups"
  pub idle : ((e : ℕ) → bit e w ≡ 1 → OpenIn e (group_at t f) × OpenIn e (group_at t g)) → u ≡ t
  -- and nothing else changes
  pub only : NothingElse w f g t u

abbrev pub Differing : Constraint → List Group → List Group → Type 0
Differing c t u = c.code ≡ 7 → Differs (get_or c.groups 0 0) (get_or c.groups 1 0) (lone (unlike_in t c)) t u
