use mathlib.Core.Path.{◌≡◌, ◌∙◌, sym}
use mathlib.Core.Bool.{not}
use lib.Dec.{eqb, leb→le}
use Rattle.model.specs.Words.{word_where}
use Rattle.model.specs.Sheet.{mark_at, group_from}
use Rattle.model.proofs.Lists.{every-range, true-T}
use Rattle.model.proofs.Words.{where_lt}
use Rattle.sheet.specs.Line.{good_mark}
use Rattle.sheet.proofs.Laws.{word_more}
use native.Mathlib.Omega.{arith}
use borrow.Author.Rules.{rules}
use Rattle.sheet.proofs.read_group.Goals as goal

pub loop-e-init : goal.loop-e-init
unfolding word_where
loop-e-init c = search rules

pub mark-m-requires : goal.mark-m-requires
mark-m-requires c =
    let g = c.requires.1 in
    let l = c.args.line.now in
    let e = c.loop-e.e in
    (g.0, g.1, omega (arith, g.2), leb→le (mark_at l e) 2 (every-range (good_mark l) 0 c.args.n (true-T _ c.requires.2) e (omega arith) (omega arith)))

pub with_bit-fixed-requires : goal.with_bit-fixed-requires
with_bit-fixed-requires c = (omega arith, rw c.loop-e.invariant.0 (where_lt _ _))

pub with_bit-possible-requires : goal.with_bit-possible-requires
with_bit-possible-requires c = (omega arith, rw c.loop-e.invariant.1 (where_lt _ _))

pub loop-e-preserved : goal.loop-e-preserved
loop-e-preserved c = let h = c.mark-m.ensures in (
  c.with_bit-fixed.ensures ∙ simp (h, c.loop-e.invariant.0) (sym (word_more (λ k. eqb (mark_at c.args.line.now k) 2) c.loop-e.e)),
  c.with_bit-possible.ensures ∙ simp (h, c.loop-e.invariant.1) (sym (word_more (λ k. not (eqb (mark_at c.args.line.now k) 0)) c.loop-e.e)),
)

pub returns : goal.returns
unfolding group_from
returns c = let z : c.loop-e.e ≡ c.args.n = omega arith in simp (c.loop-e.invariant.0, c.loop-e.invariant.1, c.value.ensures, c.value-2.ensures, z)
