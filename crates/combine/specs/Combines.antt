-- What a combined sheet is to the two that it was made of. Of the words of a draw nothing is asked: they are any list.
use Rattle.std.specs.Prelude.{ℕ, ◌≡◌, ◌&&◌, List, T}
use Rattle.model.specs.declared.Model.{Model}
use Rattle.model.specs.Model.{in_range}
use Rattle.model.specs.SheetText.{sheet_text}
use Rattle.model.specs.Solution.{is_solution}
use Rattle.model.specs.Combine.{combined_model, combine_refusal}
use Rattle.model.specs.Demand.{Accepted}

pub record Combines (a b : Model) : Type 0 where
  -- "A set of groups is a draw of the combined sheet exactly if it is a draw of both."
  pub draws : combine_refusal a b ≡ 0 → (d : List ℕ) → is_solution (combined_model a b) d ≡ (is_solution a d && is_solution b d)
  -- and where 32 is given, nothing is a draw of both
  pub none : combine_refusal a b ≡ 32 → (d : List ℕ) → T (is_solution a d) → T (is_solution b d) → ⊥
  -- the combined model is in range, and its text is a sheet that the reader accepts as that model
  pub in_range_lem : combine_refusal a b ≡ 0 → T (in_range (combined_model a b))
  pub accepted : combine_refusal a b ≡ 0 → Accepted (sheet_text (combined_model a b)) (combined_model a b)
