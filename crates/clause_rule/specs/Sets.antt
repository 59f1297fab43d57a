-- What a rule of the sets alone does to the sets of a table, as two lists, whatever its limits are.
use Rattle.std.specs.Prelude.{ℕ, ◌≡◌, List, length}
use Rattle.model.specs.declared.Group.{Group}
use Rattle.model.specs.Limits.{limits}
use Rattle.table.specs.Table.{zipped, Whole}

-- from one pair of lists, fixed and possible, to another, whatever the limits low and high are
abbrev pub Settles : (List Group → List Group) → List ℕ → List ℕ → List ℕ → List ℕ → Type 0
Settles r f p f₁ p₁ = (l h : List ℕ) → length l ≡ limits.groups → length h ≡ limits.groups
    → Whole (zipped f₁ p₁ l h) × (zipped f₁ p₁ l h ≡ r (zipped f p l h))
