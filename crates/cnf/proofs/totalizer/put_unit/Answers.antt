-- `put_unit` writes the clause of one literal. Assumes nothing.
use mathlib.Core.Path.{ap, sym, ◌∙◌}
use mathlib.Core.Bool.{Bool}
use mathlib.Core.List.{[], ◌∷◌}
use lib.ListN.{length}
use Rattle.model.specs.declared.Literal.TheVariants.{Pos, Neg}
use Rattle.model.specs.Text.{clause_text}
use Rattle.cnf.specs.Parts.{signed}
use Rattle.text.proofs.Writes.{same_text, wrote}
use Rattle.cnf.proofs.Trees.{unit_kept}
use native.Mathlib.Omega.{arith}
use Rattle.cnf.proofs.totalizer.put_unit.Goals as goal

pub returns-then-positive : goal.returns-then-positive
returns-then-positive c =
    let e = unit_kept (Pos c.args.v) ∙ ap (λ (b : Bool). clause_text (signed b c.args.v ∷ [])) (sym c.if-positive.true) in
    let w = c.put_three.ensures in
    same_text e (wrote w.value w.buf_after (omega (arith, ap length e, c.requires)))

pub returns : goal.returns
returns c =
    let e = unit_kept (Neg c.args.v) ∙ ap (λ (b : Bool). clause_text (signed b c.args.v ∷ [])) (sym c.if-positive.false) in
    let w = c.put_three-2.ensures in
    same_text e (wrote w.value w.buf_after (omega (arith, ap length e, c.requires)))
