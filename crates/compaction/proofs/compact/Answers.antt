use mathlib.Core.Path.{refl}
use native.Mathlib.Omega.{arith}
use borrow.Author.Rules.{rules}
use Rattle.compaction.proofs.Moves.{ends, walk_end}
use Rattle.compaction.proofs.compact.Goals as goal

pub returns-then-top-from : goal.returns-then-top-from
returns-then-top-from c = record { keeps = λ a h. absurd (omega (arith, ends (c.loop-from.invariant.5 a h) c.loop-from-test.true refl)) }

pub loop-from-preserved : goal.loop-from-preserved
loop-from-preserved c =
    let m = c.move_clause-to in
    let inv = c.loop-from.invariant in
    (search rules, search rules, search rules, omega (arith, m.ensures.lower_bound), search rules, λ a h. m.ensures.walk inv.2 a _ c.loop-from-test.true (inv.5 a h))

pub returns : goal.returns
returns c = record { keeps = λ a h. walk_end h (omega arith) _ _ _ _ c.loop-from-test.false (c.loop-from.invariant.5 a h) }
