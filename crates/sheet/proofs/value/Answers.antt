-- `value` gives the number in a field of a line. Assumes nothing.
use Prim.Native.Nat.{ℕ}
use mathlib.Core.Path.{ap, ◌∙◌}
use mathlib.Core.Bool.{false}
use mathlib.Core.List.{List}
use Rattle.model.specs.Sheet.{field_value, field_number, value_at}
use Rattle.sheet.proofs.value.Goals as goal

pub returns : goal.returns
unfolding value_at
returns c = c.unwrap_or.ensures ∙ c.number_in.ensures.1 ∙ ap (λ (f : List ℕ). field_number (field_value f) false) c.field.ensures
