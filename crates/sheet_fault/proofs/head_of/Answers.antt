-- `head_of` has what the head says. Assumes nothing.
use mathlib.Core.Path.{sym, ap, ◌∙◌}
use mathlib.Core.Bool.{not}
use Rattle.sheet.proofs.Refusals.{refused, passed}
use mathlib.Core.Path.{sym, ◌∙◌}
use native.Mathlib.Omega.{arith}
use borrow.Author.Tests.{eq-eqb, ne_eqb}
use Rattle.sheet.proofs.Reading.{head_good}
use Rattle.sheet_fault.specs.Fault.{head_of}
use Rattle.sheet_fault.proofs.head_of.Goals as goal

pub returns-then-is_err : goal.returns-then-is_err
unfolding head_of
returns-then-is_err c = (rw (← c.head_refusal.ensures, ne_eqb _ _ (refused _ (c.is_err.ensures.negation ∙ ap not c.if-is_err.true))), omega arith, omega arith)

pub returns : goal.returns
unfolding head_of
returns c = let g = head_good c.args.line.now (sym c.head_refusal.ensures ∙ passed _ (c.is_err.ensures.negation ∙ ap not c.if-is_err.false)) in
    (rw (← c.head_refusal.ensures, eq-eqb _ _ (passed _ (c.is_err.ensures.negation ∙ ap not c.if-is_err.false)), ← c.value.ensures, ← c.value-2.ensures, ← c.value-3.ensures), omega (arith, c.value-2.ensures, g.1.0), omega (arith, c.value-3.ensures, g.1.1))
