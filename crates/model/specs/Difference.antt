-- Groups that must not be the same, request 6 of document 02: "Code 7, groups F G, is true when some entrant is in just one of them." What settling asks
-- of the two groups.
use Rattle.std.specs.Prelude.{ℕ, Bool, cond, not, ◌&&◌, List, eqb}
use Rattle.std.specs.Int.Bits.{bit_and, bit_or}
use Rattle.model.specs.declared.Group.{Group}
use Rattle.model.specs.declared.Constraint.{Constraint}
use Rattle.model.specs.Words.{less, size}
use Rattle.model.specs.Clauses.{is_difference}
use Rattle.model.specs.Model.{member_at}

-- the entrants who are not "settled alike", that is fixed in both groups or possible in neither
unfoldable pub unlike : Group → Group → ℕ
unlike f g = less (bit_or f.possible g.possible) (bit_and f.fixed g.fixed)

unfoldable pub unlike_in : List Group → Constraint → ℕ
unlike_in t c = unlike (member_at t c 0) (member_at t c 1)

-- "Settling acts only where all entrants but one are settled alike": that one, or nobody
unfoldable pub lone : ℕ → ℕ
lone w = cond (eqb (size w) 1) w 0

-- the opposite of "All settled alike"
unfoldable pub may_differ : List Group → Constraint → Bool
may_differ t c = not (is_difference c && eqb (unlike_in t c) 0)

-- the entrants who differ already: "a settled entrant already differs" where he is fixed in one group and not possible in the other
unfoldable pub apart : Group → Group → ℕ
apart f g = bit_or (less f.fixed g.possible) (less g.fixed f.possible)

unfoldable pub is_apart : List Group → Constraint → Bool
is_apart t c = is_difference c && not (eqb (apart (member_at t c 0) (member_at t c 1)) 0)
