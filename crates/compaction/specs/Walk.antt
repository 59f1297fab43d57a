-- A walk over the store in which live clauses move down over forgotten ones.
use Rattle.std.specs.Prelude.{ℕ, ◌+◌, ◌≤◌, ◌<◌, ◌≡◌, ◌⊎◌, Bool, List, get_or}
use Rattle.refutation.specs.Sound.{Reached, Stored}

-- clauses from place `from` on are still to move down, those before place `to` have moved

pub record Walk (a : List Bool) (from to top : ℕ) (store index : List ℕ) : Type 0 where
  pub stored : (i : ℕ) → 0 < get_or index i 0 → Stored a store 1 to i (get_or index i 0) ⊎ Stored a store from top i (get_or index i 0)
  pub low : Reached store 1 to
  pub high : Reached store from top

-- n words moved down from place `from` to place `to`
pub record MovedDown (from to n : ℕ) (before after : List ℕ) : Type 0 where
  pub moved : (k : ℕ) → k < n → get_or after (to + k) 0 ≡ get_or before (from + k) 0
  pub below : (p : ℕ) → p < to → get_or after p 0 ≡ get_or before p 0
  pub above : (p : ℕ) → to + n ≤ p → get_or after p 0 ≡ get_or before p 0
