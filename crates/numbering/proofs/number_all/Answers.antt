use mathlib.Core.Path.{◌≡◌, refl, sym, ap, ◌∙◌}
use Prim.Native.Nat.{ℕ, ◌+◌, ◌-◌}
use native.Mathlib.Omega.{arith}
use borrow.Author.Tests.{lt-ltb, le-ltb}
use lib.ListN.{take, length-take, length-set}
use lib.Seq.{take_all}
use Rattle.std.proofs.lemmas.Fn.{says_at}
use Rattle.model.specs.Lists.{total}
use Rattle.numbering.proofs.Arrays.{fill-numbers, filled-numbers, total-step}
use Rattle.numbering.proofs.number_all.Goals as goal
use Rattle.numbering.proofs.number_all.Goals.{then-i-s, else-i-s}

pub overflow_add-next : goal.overflow_add-next
overflow_add-next g c =
    let few = c.requires.small _ _ (says_at g.F.Fn c.count-next.ensures refl) in
    omega (arith, c.requires.room, c.loop-i.invariant.few, few)

pub loop-i-preserved : goal.loop-i-preserved
loop-i-preserved g c =
    let l = c.loop-i in
    let inv = l.invariant in
    let x = c.index-items-i.result in
    let from = c.args.from in
    record {
      long = simp length-set inv.long;
      few = elim c.if-i-s.branch [
        | then-i-s w ↦ let few = c.requires.small _ _ (says_at g.F.Fn w.count-next.ensures refl) in omega (arith, inv.few, few)
        | else-i-s w ↦ omega (arith, inv.few)
      ];
      numbers = λ f law.
          let front = take c.args.s c.args.items.now in
          let at : l.i ≡ 1 + l.i - 1 = omega arith in
          let number = λ (k : ℕ). from + total f (take k front) in
          let known = inv.numbers f law in (
            fill-numbers g.row.N (λ j. number (j - 1)) _ l.i _ (omega arith) inv.long known.0 (known.1 ∙ ap number at),
            elim c.if-i-s.branch [
              | then-i-s w ↦
                  let e = law _ _ (says_at g.F.Fn w.count-next.ensures refl) in
                  let t = total-step f c.args.items.now c.args.s l.i x (omega arith) _ (sym (lt-ltb l.i c.args.s w.if-i-s.true)) in
                  w.next-is ∙ omega (arith, known.1, e, ap f c.index-items-i.is, t)
              | else-i-s w ↦
                  let t = total-step f c.args.items.now c.args.s l.i x (omega arith) _ (sym (le-ltb l.i c.args.s w.if-i-s.false)) in
                  w.next-is ∙ omega (arith, known.1, t)
            ],
          );
    }

pub returns-clause-numbers : goal.returns-clause-numbers
returns-clause-numbers g c = λ f law.
    let l = c.loop-i in
    let front = take c.args.s c.args.items.now in
    let number = λ (k : ℕ). c.args.from + total f (take k front) in
    let known = l.invariant.numbers f law in (
      filled-numbers g.row.N (λ j. number (j - 1)) _ l.i (omega arith) l.invariant.long known.0,
      known.1 ∙ ap (λ xs. c.args.from + total f xs) (take_all l.i front (omega (arith, length-take c.args.s c.args.items.now))),
    )
