-- The long clause of a union, "F1 .. Fk -H", and who is in none of F1 .. Fk or in one at most.
use Rattle.std.specs.Prelude.{ℕ, List, [], ◌∷◌, ◌++◌, map, get_or}
use Rattle.std.specs.Int.Bits.{bit_or}
use Rattle.model.specs.declared.Literal.{Literal}
use Rattle.model.specs.declared.Literal.TheVariants.{Pos, Neg}
use Rattle.model.specs.declared.Group.{Group}
use Rattle.model.specs.Lists.{range}
use Rattle.model.specs.Words.{less}
use Rattle.model.specs.Model.{group_at}

abbrev pub long_clause : ℕ → List Literal
long_clause k = map Pos (range 1 k) ++ (Neg 0 ∷ [])

-- the words of the entrants who are possible in some members
abbrev pub words_of : List Group → List ℕ → List ℕ → List ℕ
words_of t ids ms = map (λ m. (group_at t (get_or ids m 0)).possible) ms

-- the entrants of w who are in none of some words
abbrev pub outside : ℕ → List ℕ → ℕ
outside w [] = w
outside w (p ∷ ps) = outside (less w p) ps

-- those of `one` who are in none, and those of `none` who are in one at most
abbrev pub in_one_at_most : ℕ → ℕ → List ℕ → ℕ
in_one_at_most none one [] = one
in_one_at_most none one (p ∷ ps) = in_one_at_most (less none p) (bit_or none (less one p)) ps
