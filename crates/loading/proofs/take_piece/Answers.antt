-- `take_piece` meets its contract. Assumes nothing.
use Rattle.std.proofs.Common.{sym, ◌∙◌}
use Rattle.std.proofs.lemmas.Option.{none-some}
use Rattle.loading.proofs.Loads.{wrong-takes}
use Rattle.loading.proofs.take_piece.Goals as goal

pub returns-in-Wrong : goal.returns-in-Wrong
returns-in-Wrong c = λ a h n. wrong-takes (c.refuse-state.ensures.holds a _ _ _ h) (λ z. none-some _ (sym z ∙ c.refuse-state.ensures.refusal_value))
