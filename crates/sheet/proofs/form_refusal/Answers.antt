use Prim.Native.Nat.{ℕ, ◌/◌}
use mathlib.Core.Path.{◌≡◌}
use mathlib.Core.Bool.{Bool, true, false, ◌&&◌}
use mathlib.Core.List.{List}
use lib.Dec.{leb, eqb}
use lib.ListN.{length}
use Rattle.std.specs.Prelude.{Option}
use Rattle.model.specs.Sheet.{field_at, field_value, field_refusal, if_none, value_at, is_mark_column, good_field, form_refusal}
use Rattle.model.proofs.Loops.{range-goes, range-stops, range-done}
use native.Mathlib.Omega.{arith}
use borrow.Author.Tests.{eq-eqb, ne_eqb}
use Rattle.sheet.proofs.form_refusal.Goals as goal

-- field i has the bytes f, which say r, the case k
taken : (l : List ℕ) (i kind : ℕ) (f : List ℕ) (mark : Bool) (r k : Option ℕ) → kind ≡ value_at l 0 → f ≡ field_at l i → mark ≡ (leb 4 i && eqb kind 2)
    → if_none 4 r ≡ field_refusal (field_value f) mark → r ≡ k → good_field l i ≡ eqb (if_none 4 k) 0
unfolding good_field is_mark_column
taken l i kind f mark r k first bytes column e q = rw (← first, ← bytes, ← column, ← e, q)

pub returns-then-n-eq0 : goal.returns-then-n-eq0
unfolding form_refusal
returns-then-n-eq0 c = simp (eq-eqb _ _ c.if-n-eq0.true)

pub returns-then-n-ne0 : goal.returns-then-n-ne0
unfolding form_refusal
returns-then-n-ne0 c = simp (ne_eqb _ _ c.if-n-eq0.false, ne_eqb _ _ c.if-n-ne0.true)

pub returns-in_default : goal.returns-in_default
unfolding form_refusal
returns-in_default c =
    let line = c.args.line.now in
    let loop = c.loop-i in
    let bad : good_field line loop.i ≡ false =
    taken _ _ _ _ _ _ _ c.value-kind.ensures c.field.ensures c.is_mark_column.ensures c.number_in.ensures.0 c.in_default.is in
    rw (
      ne_eqb _ _ c.if-n-eq0.false,
      eq-eqb _ _ c.if-n-ne0.false,
      range-stops (good_field line) _ (length line / 4) loop.i loop.invariant (omega arith) bad,
    )

pub loop-i-preserved : goal.loop-i-preserved
loop-i-preserved c =
    let line = c.args.line.now in
    let loop = c.loop-i in
    let good : good_field line loop.i ≡ true =
    taken _ _ _ _ _ _ _ c.value-kind.ensures c.field.ensures c.is_mark_column.ensures c.number_in.ensures.0 c.in-Some.is in
    range-goes (good_field line) _ (length line / 4) loop.i loop.invariant (omega arith) good

pub returns : goal.returns
unfolding form_refusal
returns c =
    let line = c.args.line.now in
    let loop = c.loop-i in
    rw (
      ne_eqb _ _ c.if-n-eq0.false,
      eq-eqb _ _ c.if-n-ne0.false,
      range-done (good_field line) _ (length line / 4) loop.i loop.invariant (omega arith),
    )
