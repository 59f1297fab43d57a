-- Limits that travel between groups, request 1 of document 02: "we now pass both limits. After a line's clauses, in the order written here, on the
-- newest table".
use Rattle.std.specs.Prelude.{ℕ, ◌-◌, min, max, List, [], ◌∷◌, ◌++◌, map, get_or, drop}
use Rattle.model.specs.declared.Group.{Group}
use Rattle.model.specs.declared.Constraint.{Constraint}
use Rattle.model.specs.Lists.{total, on_place}
use Rattle.model.specs.Clauses.{groups_of}
use Rattle.model.specs.Model.{group_at}

-- a limit of a group, at least or at most v
unfoldable pub raised : ℕ → Group → Group
raised v g = record { fixed = g.fixed; possible = g.possible; low = max g.low v; high = g.high }

unfoldable pub lowered : ℕ → Group → Group
lowered v g = record { fixed = g.fixed; possible = g.possible; low = g.low; high = min g.high v }

-- "low of G at least low of F"
unfoldable pub low_at_least : ℕ → ℕ → List Group → List Group
low_at_least g f t = on_place (g - 1) (raised (group_at t f).low) t

-- "high of F at most high of G"
unfoldable pub high_at_most : ℕ → ℕ → List Group → List Group
high_at_most f g t = on_place (f - 1) (lowered (group_at t g).high) t

-- "high of H at most the sum of the members' highs"
unfoldable pub high_at_most_sum : ℕ → List ℕ → List Group → List Group
high_at_most_sum h fs t = on_place (h - 1) (lowered (total (λ f. (group_at t f).high) fs)) t

-- "code 2, low of G at least low of F, high of F at most high of G"
unfoldable pub low_first : ℕ → ℕ → List (List Group → List Group)
low_first f g = low_at_least g f ∷ high_at_most f g ∷ []

-- "codes 3 and 5, high of H at most high of F, low of F at least low of H"
unfoldable pub high_first : ℕ → ℕ → List (List Group → List Group)
high_first h f = high_at_most h f ∷ low_at_least f h ∷ []

-- "codes 4 and 6, low of H at least each member's low, each member's high at most high of H, high of H at most the sum of the members' highs"
unfoldable pub union_limits : ℕ → List ℕ → List (List Group → List Group)
union_limits h fs = map (low_at_least h) fs ++ map (λ f. high_at_most f h) fs ++ (high_at_most_sum h fs ∷ [])

-- the steps of a code over its groups, "F G" or "H F G" or "H F1..Fk": "code 1, the same, then with F and G exchanged", "and code 3 then the same
-- with G"
unfoldable pub limits_of : ℕ → List ℕ → List (List Group → List Group)
limits_of code gs =
    let a = get_or gs 0 0 in
    let b = get_or gs 1 0 in
    let c = get_or gs 2 0 in
    get_or
    ([]
    ∷ (low_first a b ++ low_first b a)
    ∷ low_first a b
    ∷ (high_first a b ++ high_first a c)
    ∷ union_limits a (drop 1 gs)
    ∷ high_first a b
    ∷ union_limits a (drop 1 gs)
    ∷ [])
    code []

unfoldable pub limit_rules : Constraint → List (List Group → List Group)
limit_rules c = limits_of c.code (groups_of c)
