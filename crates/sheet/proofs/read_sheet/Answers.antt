use Prim.Native.Nat.{ℕ, ◌+◌}
use mathlib.Core.Path.{◌∙◌, sym, ap}
use Rattle.model.specs.Sheet.{read_sheet, after_last, refused_sheet}
use Rattle.sheet.proofs.Refusals.{positive, accepted}
use Rattle.sheet.proofs.Reading.{at-start, constraint-place, constraint-small, constraint-line, group-line, at-end, part-fits, part_length, part-stops, part-goes, head-made, group-made, constraint_made}
use native.Mathlib.Omega.{arith}
use borrow.Author.Tests.{lt-ltb, le-ltb, le-leb, lt-leb, eq-eqb, ne_eqb}
use Rattle.sheet.proofs.Blanks.{promised}
use Rattle.sheet.proofs.read_sheet.Goals as goal
use Rattle.sheet.proofs.read_sheet.Goals.{then-done-eq0, else-done-eq0+then-done-m, else-done-eq0+else-done-m}

-- the clauses by their names
named : {A B C : Type 0} → A × (B × C) → record { value : A; by_index : B; orders : C }
named p = record { value = p.0; by_index = p.1.0; orders = p.1.1 }

pub returns-then-n-gt-SHEET_BYTES : goal.returns-then-n-gt-SHEET_BYTES
unfolding read_sheet
returns-then-n-gt-SHEET_BYTES c = named (promised _ _ (simp (lt-ltb _ _ c.if-n-gt-SHEET_BYTES.true) c.refused.ensures))

pub returns-then-n-eq0 : goal.returns-then-n-eq0
unfolding read_sheet
returns-then-n-eq0 c = named (promised _ _ (simp (le-ltb _ _ c.if-n-gt-SHEET_BYTES.false, eq-eqb _ _ c.if-n-eq0.true) c.refused-then-n-eq0.ensures))

pub returns-then-sheet-n-ne10 : goal.returns-then-sheet-n-ne10
unfolding read_sheet
returns-then-sheet-n-ne10 c = named (promised _ _ (simp (le-ltb _ _ c.if-n-gt-SHEET_BYTES.false, ne_eqb _ _ c.if-n-eq0.false, ne_eqb _ _ c.if-sheet-n-ne10.true) c.refused-then-sheet-n-ne10.ensures))

pub loop-at-init : goal.loop-at-init
loop-at-init c = at-start _ _ c.zero-m.ensures

pub slice_bounds-line-end : goal.slice_bounds-line-end
slice_bounds-line-end c = part_length c.args.sheet.now c.loop-at.m c.loop-at.done c.loop-at.at c.loop-at.invariant c.loop-at-test.true c.if-sheet-n-ne10.false c.line_length-len.result c.line_length-len.ensures

pub returns-in-Err : goal.returns-in-Err
unfolding read_sheet
returns-in-Err c = named (promised _ _ (rw (le-ltb _ _ c.if-n-gt-SHEET_BYTES.false, ne_eqb _ _ c.if-n-eq0.false, eq-eqb _ _ c.if-sheet-n-ne10.false) ((c.refused-in-Err.ensures ∙ ap (λ (k : ℕ). refused_sheet k (c.loop-at.done + 1)) c.number.ensures) ∙ part-stops c.args.sheet.now c.loop-at.m c.loop-at.done c.loop-at.at c.loop-at.invariant c.loop-at-test.true c.if-sheet-n-ne10.false c.line_length-len.result c.line_length-len.ensures _ c.in-Err.ensures (positive _))))

pub read_group-g-requires : goal.read_group-g-requires
read_group-g-requires c =
    let l = c.loop-at in
    let g = group-line _ _ _ _ l.done (sym c.line_refusal.ensures ∙ accepted _ c.in_default.not-Err) c.if-done-eq0.false c.if-done-m.true in
    (l.invariant.entrants, g.0, g.1)

pub read_constraint-k-requires : goal.read_constraint-k-requires
read_constraint-k-requires c =
    let done = c.loop-at.done in
    let e = sym c.line_refusal.ensures ∙ accepted _ c.in_default.not-Err in
    (constraint-small _ _ _ _ done e c.if-done-eq0.false c.if-done-m.false, constraint-line _ _ _ _ done e c.if-done-eq0.false c.if-done-m.false)

pub bounds-m-j : goal.bounds-m-j
bounds-m-j c = omega (arith, c.loop-at.invariant.constraints, c.if-done-m.false, constraint-place _ _ _ _ c.loop-at.done (sym c.line_refusal.ensures ∙ accepted _ c.in_default.not-Err) c.if-done-eq0.false c.if-done-m.false)

pub overflow_add-at : goal.overflow_add-at
overflow_add-at c = omega (arith, c.if-n-gt-SHEET_BYTES.false, part-fits c.args.sheet.now c.loop-at.m c.loop-at.done c.loop-at.at c.loop-at.invariant c.loop-at-test.true c.if-sheet-n-ne10.false c.line_length-len.result c.line_length-len.ensures)

pub overflow_add-at-in-loop-at : goal.overflow_add-at-in-loop-at
overflow_add-at-in-loop-at c = omega (arith, c.if-n-gt-SHEET_BYTES.false, part-fits c.args.sheet.now c.loop-at.m c.loop-at.done c.loop-at.at c.loop-at.invariant c.loop-at-test.true c.if-sheet-n-ne10.false c.line_length-len.result c.line_length-len.ensures)

pub loop-at-preserved : goal.loop-at-preserved
loop-at-preserved c = part-goes c.args.sheet.now c.loop-at.m c.loop-at.done c.loop-at.at c.loop-at.invariant c.loop-at-test.true c.if-sheet-n-ne10.false c.line_length-len.result c.line_length-len.ensures _ c.line_refusal.ensures (accepted _ c.in_default.not-Err) c.if-done-eq0.m
    (elim c.if-done-eq0.branch [
      | then-done-eq0 w ↦ w.m-is ∙ head-made c.loop-at.m _ c.loop-at.done w.if-done-eq0.true _ _ _ w.value.ensures w.value-then-done-eq0.ensures w.value-then-done-eq0-2.ensures
      | else-done-eq0+then-done-m w ↦ w.m-is ∙ group-made c.loop-at.m _ c.loop-at.done w.if-done-eq0.false w.if-done-m.true _ w.read_group-g.ensures
      | else-done-eq0+else-done-m w ↦ w.m-is ∙ constraint_made c.loop-at.m _ c.loop-at.done w.if-done-eq0.false w.if-done-m.false _ w.read_constraint-k.ensures
    ])

pub returns-then-done-m-2 : goal.returns-then-done-m-2
unfolding read_sheet after_last
returns-then-done-m-2 c = named (promised _ _ (rw (le-ltb _ _ c.if-n-gt-SHEET_BYTES.false, ne_eqb _ _ c.if-n-eq0.false, eq-eqb _ _ c.if-sheet-n-ne10.false) (c.refused-then-done-m-2.ensures ∙ sym (at-end c.args.sheet.now c.loop-at.m c.loop-at.done c.loop-at.at c.loop-at.invariant c.loop-at-test.false ∙ rw (le-leb _ _ c.if-done-m-2.true)))))

pub returns : goal.returns
unfolding read_sheet after_last
returns c = named (promised _ _ (rw (le-ltb _ _ c.if-n-gt-SHEET_BYTES.false, ne_eqb _ _ c.if-n-eq0.false, eq-eqb _ _ c.if-sheet-n-ne10.false) (sym (at-end c.args.sheet.now c.loop-at.m c.loop-at.done c.loop-at.at c.loop-at.invariant c.loop-at-test.false ∙ rw (lt-leb _ _ c.if-done-m-2.false)))))
