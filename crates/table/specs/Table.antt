-- The table of groups as four lists, its sets and its limits, and what a rule makes of such lists.
use Rattle.std.specs.Prelude.{ℕ, ◌≡◌, List, [], ◌∷◌, map, length}
use Rattle.model.specs.declared.Group.{Group}
use Rattle.model.specs.Limits.{limits}

abbrev pub group : ℕ → ℕ → ℕ → ℕ → Group
group f p l h = record { fixed = f; possible = p; low = l; high = h }

-- the groups that stand at each place of four lists
unfoldable pub zipped : List ℕ → List ℕ → List ℕ → List ℕ → List Group
zipped [] ps ls hs = []
zipped (f ∷ fs) [] ls hs = []
zipped (f ∷ fs) (p ∷ ps) [] hs = []
zipped (f ∷ fs) (p ∷ ps) (l ∷ ls) [] = []
zipped (f ∷ fs) (p ∷ ps) (l ∷ ls) (h ∷ hs) = group f p l h ∷ zipped fs ps ls hs

-- the four lists of a table's groups
abbrev pub fixed_of : List Group → List ℕ
fixed_of t = map (λ g. g.fixed) t

abbrev pub possible_of : List Group → List ℕ
possible_of t = map (λ g. g.possible) t

abbrev pub lows : List Group → List ℕ
lows t = map (λ g. g.low) t

abbrev pub highs : List Group → List ℕ
highs t = map (λ g. g.high) t

-- every place is there
abbrev pub Whole : List Group → Type 0
Whole t = length t ≡ limits.groups

-- the groups t become u as a rule says
abbrev pub Changes : (List Group → List Group) → List Group → List Group → Type 0
Changes r t u = Whole t → Whole u × (u ≡ r t)
