-- "Lines and their clauses": "For one entrant, F means "in F", -F "not in F"." One table, read by propagation, block writer and closing.
use Rattle.std.specs.Prelude.{ℕ, ◌+◌, Bool, cond, List, [], ◌∷◌, ◌++◌, map, eqb, get_or, take}
use Rattle.model.specs.declared.Literal.{Literal}
use Rattle.model.specs.declared.Literal.TheVariants.{Pos, Neg}
use Rattle.model.specs.declared.Constraint.{Constraint}
use Rattle.model.specs.Lists.{range, between}

-- the codes whose clauses are all written entrant by entrant, "by entrant, then clause"; of code 7 the four are, and "The line's last clause" is not
abbrev pub by_entrant : ℕ → Bool
by_entrant code = between 1 6 code

-- The groups of each code, "F G" or "H F G" or "H F1..Fk", are its members 0, 1, ..: how many there are
unfoldable pub member_count : ℕ → ℕ → ℕ
member_count code k = cond (eqb code 6) (k + 1) (get_or (0 ∷ 2 ∷ 2 ∷ 3 ∷ 3 ∷ 3 ∷ 0 ∷ 2 ∷ []) code 0)

-- the clauses of codes 1 to 5 and 7 in order. Code 7 has the groups F G as members 0 and 1; its member 2 is no group but the variable X of the entrant:
-- "(-F -G -X) (F G -X) (-F G X) (F -G X)"
unfoldable pub short_clauses : ℕ → List (List Literal)
short_clauses code =
    get_or
    ([]
    ∷ ((Neg 0 ∷ Pos 1 ∷ []) ∷ (Pos 0 ∷ Neg 1 ∷ []) ∷ [])
    ∷ ((Neg 0 ∷ Pos 1 ∷ []) ∷ [])
    ∷ ((Neg 1 ∷ Neg 2 ∷ Pos 0 ∷ []) ∷ (Pos 1 ∷ Neg 0 ∷ []) ∷ (Pos 2 ∷ Neg 0 ∷ []) ∷ [])
    ∷ ((Pos 1 ∷ Pos 2 ∷ Neg 0 ∷ []) ∷ (Neg 1 ∷ Pos 0 ∷ []) ∷ (Neg 2 ∷ Pos 0 ∷ []) ∷ [])
    ∷ ((Neg 1 ∷ Pos 2 ∷ Pos 0 ∷ []) ∷ (Pos 1 ∷ Neg 0 ∷ []) ∷ (Neg 2 ∷ Neg 0 ∷ []) ∷ [])
    ∷ []
    ∷ ((Neg 0 ∷ Neg 1 ∷ Neg 2 ∷ []) ∷ (Pos 0 ∷ Pos 1 ∷ Neg 2 ∷ []) ∷ (Neg 0 ∷ Pos 1 ∷ Pos 2 ∷ []) ∷ (Pos 0 ∷ Neg 1 ∷ Pos 2 ∷ []) ∷ [])
    ∷ [])
    code []

-- "(F1 .. Fk -H), then (-Fi H) for i = 1..k"
unfoldable pub union_clauses : ℕ → List (List Literal)
union_clauses k = (map Pos (range 1 k) ++ (Neg 0 ∷ [])) ∷ map (λ i. Neg i ∷ Pos 0 ∷ []) (range 1 k)

-- the clauses of a code, over its members
unfoldable pub member_clauses : ℕ → ℕ → List (List Literal)
member_clauses code k = cond (eqb code 6) (union_clauses k) (short_clauses code)

-- "Code 7, groups F G, is true when some entrant is in just one of them."
unfoldable pub is_difference : Constraint → Bool
is_difference c = eqb c.code 7

-- the clauses that the line rule goes through; of code 7 those that are left of the four where X is true: "the opposite way in the other"
unfoldable pub rule_clauses : ℕ → ℕ → List (List Literal)
rule_clauses code k = cond (eqb code 7) ((Neg 0 ∷ Neg 1 ∷ []) ∷ (Pos 0 ∷ Pos 1 ∷ []) ∷ []) (member_clauses code k)

-- a literal of a member is one of its group
unfoldable pub of_group : List ℕ → Literal → Literal
of_group gs (Pos i) = Pos (get_or gs i 0)
of_group gs (Neg i) = Neg (get_or gs i 0)

-- the groups of a constraint, and the line rule's clauses over them
unfoldable pub groups_of : Constraint → List ℕ
groups_of c = take (member_count c.code c.count) c.groups

unfoldable pub clauses_of : Constraint → List (List Literal)
clauses_of c = map (map (of_group c.groups)) (rule_clauses c.code c.count)
