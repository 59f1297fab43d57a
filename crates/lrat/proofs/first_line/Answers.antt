-- `first_line` begins at line 1, or at 0 where the state is refused. Assumes nothing.
use Rattle.std.proofs.Common.{◌≡◌, ℕ, Bool, true, false, not, cond, refl, sym, ap, ◌∙◌}
use Rattle.std.specs.Prelude.{Option, None, Some}
use Rattle.std.specs.Option.{is_none, is_some}
use Rattle.refutation.specs.declared.Reason.{Reason}
use Rattle.lrat.specs.First.{first_reader}
use Rattle.lrat.proofs.first_line.Goals as goal

line-of : (o : Option Reason) (b : Bool) → is_some o ≡ not b → ◌≡◌ {A = ℕ} (cond b 1 0) (cond (is_none o) 1 0)
line-of None true e = refl
line-of None false e = ap (λ (x : Bool). cond {A = ℕ} x 1 0) e
line-of (Some why) true e = ap (λ (x : Bool). cond {A = ℕ} x 1 0) e
line-of (Some why) false e = refl

pub returns-then-is_none : goal.returns-then-is_none
unfolding first_reader
returns-then-is_none c = (refl, rw (sym (line-of _ true (c.is_none.ensures ∙ ap not c.if-is_none.true))) refl)

pub returns-else-is_none : goal.returns-else-is_none
unfolding first_reader
returns-else-is_none c = (refl, rw (sym (line-of _ false (c.is_none.ensures ∙ ap not c.if-is_none.false))) refl)
