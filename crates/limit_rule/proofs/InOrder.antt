-- Steps of limits one after the other: low and high steps do not meet, so which of the two comes first is not seen. Assumes nothing.
use mathlib.Core.Path.{sym, ap, ◌∙◌}
use Prim.Native.Nat.{ℕ}
use mathlib.Core.List.{List, [], ◌∷◌, ◌++◌, map}
use Rattle.model.specs.declared.Group.{Group}
use Rattle.model.specs.LimitRules.{low_at_least, high_at_most, high_at_most_sum, low_first, high_first, union_limits}
use Rattle.model.specs.Propagate.{run}
use Rattle.table.specs.Table.{zipped}
use Rattle.table.proofs.Rules.{run-append}
use Rattle.limit_rule.specs.Moves.{Moves, MovesLow, MovesHigh}

abbrev Step : Type 0
Step = List Group → List Group

module _ (l h l₁ h₁ l₂ h₂ : List ℕ) where
  moves-then : (r q : Step) → Moves r l h l₁ h₁ → Moves q l₁ h₁ l₂ h₂ → Moves (λ t. q (r t)) l h l₂ h₂
  moves-then r q m n f p w =
      let a = m f p w in
      let b = n f p a.0 in
      (b.0, b.1 ∙ ap q a.1)

  pub moves-append : (xs ys : List Step) → Moves (run xs) l h l₁ h₁ → Moves (run ys) l₁ h₁ l₂ h₂ → Moves (run (xs ++ ys)) l h l₂ h₂
  moves-append xs ys m n f p w =
      let a = moves-then (run xs) (run ys) m n f p w in
      (a.0, a.1 ∙ sym (run-append xs ys (zipped f p l h)))

module _ (f g : ℕ) (l h l₁ h₁ : List ℕ) (low : MovesLow (low_at_least g f) l l₁) (high : MovesHigh (high_at_most f g) h h₁) where
  pub moves-low-first : Moves (run (low_first f g)) l h l₁ h₁
  unfolding low_first
  moves-low-first = moves-then l h l₁ h l₁ h₁ (low_at_least g f) (high_at_most f g) (low h) (high l₁)

  pub moves-high-first : Moves (run (high_first f g)) l h l₁ h₁
  unfolding high_first
  moves-high-first = moves-then l h l h₁ l₁ h₁ (high_at_most f g) (low_at_least g f) (high l) (low h₁)

pub moves-union : (a : ℕ) (fs l h l₁ h₁ h₂ : List ℕ) → MovesLow (run (map (low_at_least a) fs)) l l₁ → MovesHigh (run (map (λ f. high_at_most f a) fs)) h h₁
    → MovesHigh (high_at_most_sum a fs) h₁ h₂ → Moves (run (union_limits a fs)) l h l₁ h₂
unfolding union_limits
moves-union a fs l h l₁ h₁ h₂ low high sum =
    moves-append l h l₁ h₁ l₁ h₂ (map (low_at_least a) fs ++ map (λ f. high_at_most f a) fs) (high_at_most_sum a fs ∷ [])
    (moves-append l h l₁ h l₁ h₁ (map (low_at_least a) fs) (map (λ f. high_at_most f a) fs) (low h) (high l₁)) (sum l₁)
