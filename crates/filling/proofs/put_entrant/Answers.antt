-- `put_entrant` writes the value of an open entrant, or nothing. Assumes nothing.
use Prim.Native.Nat.{ℕ}
use mathlib.Core.Path.{sym, ap, ◌∙◌}
use mathlib.Core.List.{[], ◌∷◌}
use native.Mathlib.Omega.{arith}
use Rattle.text.proofs.Writes.{done, same_text, byte}
use Rattle.filling.proofs.Values.{entrant-open, entrant-shut}
use Rattle.filling.proofs.put_entrant.Goals as goal

pub bounds-values-at : goal.bounds-values-at
bounds-values-at c =
    omega (arith, c.requires.e_in_bounds, (entrant-open c.args.free c.args.w c.args.e c.if-free-e-eq1.true).1)

pub returns-then-free-e-eq1 : goal.returns-then-free-e-eq1
returns-then-free-e-eq1 c =
    let there = entrant-open c.args.free c.args.w c.args.e c.if-free-e-eq1.true in
    same_text (ap (λ (b : ℕ). b ∷ []) c.value_of.ensures ∙ sym there.0) (byte c.value_of.result c.args.at _ (omega (arith, c.requires.e_in_bounds, there.1)))

pub returns : goal.returns
returns c =
    same_text (sym (entrant-shut c.args.free c.args.w c.args.e c.if-free-e-eq1.false)) (done c.args.at _ (omega (arith, c.requires.e_in_bounds)))
