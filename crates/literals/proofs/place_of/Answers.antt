-- `place_of` judges a variable: 11, then 12. Assumes nothing.
use Prim.Native.Nat.{ℕ, ◌-◌}
use mathlib.Core.Path.{◌≡◌, refl, ◌∙◌, sym, ap}
use mathlib.Core.Bool.{Bool, true, false, cond}
use mathlib.Core.List.{List, []}
use lib.Dec.{ltb}
use lib.ListN.{length, get_or}
use Rattle.model.specs.Lists.{stop}
use Rattle.model.specs.Assignment.{is_said}
use Rattle.std.specs.Prelude.{Result, Ok, Err}
use Rattle.literals.specs.declared.Refusal.{Refusal}
use Rattle.literals.specs.declared.Refusal.TheVariants.{Above, Taken}
use Rattle.literals.specs.Line.{place_of, refusal_of, literal_refusal}
use borrow.Author.Tests.{lt-ltb, le-ltb}
use Rattle.literals.proofs.place_of.Goals as goal

-- the refusal of the answer
both : (v : ℕ) (values : List ℕ) (r : Result ℕ Refusal) → r ≡ place_of v values → (r ≡ place_of v values) × (refusal_of r ≡ literal_refusal v [] values)
unfolding place_of literal_refusal
both v values r e = (e, ap refusal_of e ∙ go (ltb (length values) v) (is_said (get_or values (v - 1) 0)))
  where
    go : (a b : Bool) → refusal_of (cond a (Err Above) (cond b (Err Taken) (Ok (v - 1)))) ≡ stop a 11 (stop b 12 0)
    go true b = refl
    go false true = refl
    go false false = refl

-- the clauses by their names
named : {A B : Type 0} → A × B → record { value : A; result_value : B }
named p = record { value = p.0; result_value = p.1 }

pub returns-then-values-v : goal.returns-then-values-v
unfolding place_of
returns-then-values-v c = named (both c.args.v c.args.values.now (Err Above) (rw (lt-ltb _ _ c.if-values-v.true)))

pub returns-then-is_said : goal.returns-then-is_said
unfolding place_of
returns-then-is_said c = named (both c.args.v c.args.values.now (Err Taken) (rw (le-ltb _ _ c.if-values-v.false, sym c.is_said.ensures ∙ c.if-is_said.true)))

pub returns : goal.returns
unfolding place_of
returns c = named (both c.args.v c.args.values.now (Ok (c.args.v - 1)) (rw (le-ltb _ _ c.if-values-v.false, sym c.is_said.ensures ∙ c.if-is_said.false)))
