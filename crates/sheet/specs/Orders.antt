-- Demand 3 of a sheet that is read: where it is accepted so is each order of it, with the same model but for the order of the constraints.
use Rattle.std.specs.Prelude.{◌≡◌, ℕ, List}
use Rattle.model.specs.declared.Model.{Model}
use Rattle.model.specs.declared.SheetRead.{SheetRead}
use Rattle.model.specs.Demand.{Accepted, OrderOf}
use Rattle.propagation_laws.proofs.Propagation.{Reordered}

pub record Orders (b : List ℕ) (r : SheetRead) : Type 0 where
  pub accepted : r.refusal ≡ 0 → Accepted b r.model
  pub order : (o : List ℕ) → OrderOf b o r.model → (p : Model) × (Accepted o p × Reordered r.model p)
