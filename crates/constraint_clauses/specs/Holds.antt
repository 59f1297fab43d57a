-- A constraint's clauses, for all entrants at once.
use Rattle.std.specs.Prelude.{ℕ, Bool, List, [], ◌∷◌, get_or}
use Rattle.std.specs.Int.Bits.{bit_or}
use Rattle.model.specs.declared.Literal.{Literal}
use Rattle.model.specs.declared.Literal.TheVariants.{Pos, Neg}
use Rattle.model.specs.Words.{less, inside}
use Rattle.model.specs.Solution.{set_of}

-- the entrants of w for whom a literal of a member holds, where the words are d and the members' groups ids
abbrev pub literal_word : List ℕ → List ℕ → ℕ → Literal → ℕ
literal_word d ids w (Pos i) = set_of d (get_or ids i 0)
literal_word d ids w (Neg i) = less w (set_of d (get_or ids i 0))

-- those of x, and those for whom one of the literals holds
abbrev pub clause_word : List ℕ → List ℕ → ℕ → ℕ → List Literal → ℕ
clause_word d ids w x [] = x
clause_word d ids w x (l ∷ ls) = clause_word d ids w (bit_or x (literal_word d ids w l)) ls

-- a clause holds for every entrant of w
unfoldable pub clause_holds : List ℕ → List ℕ → ℕ → List Literal → Bool
clause_holds d ids w c = inside w (clause_word d ids w 0 c)
