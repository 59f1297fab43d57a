-- `group_in_range` is the test of one group. Assumes nothing.
use Prim.Native.Nat.{ℕ, ◌^◌, ◌≤◌, ◌<◌, min}
use mathlib.Core.Path.{◌≡◌, ◌∙◌}
use mathlib.Core.Bool.{Bool, true, false, ◌&&◌}
use native.Mathlib.Omega.{arith}
use borrow.Author.Tests.{lt-ltb, le-ltb, le-leb, lt-leb, eq-eqb, ne_eqb}
use lib.Dec.{ltb}
use lib.Pow.{pow_pos}
use Rattle.model.specs.Limits.{limits}
use Rattle.model.specs.Words.{full, inside}
use Rattle.model.specs.Model.{group_in_range}
use Rattle.model.proofs.Words.{entrants-full}
use Rattle.range.proofs.group_in_range.Goals as goal

-- no entrant past n, by the word of all entrants
module _ (w p n : ℕ) (few : n ≤ limits.word) (e : w ≡ full (min n limits.word)) where
  past : w < p → ltb p (2 ^ n) ≡ false
  unfolding full
  past h = let q = e ∙ entrants-full n few in le-ltb p (2 ^ n) (omega (arith, pow_pos n))

  none-past : p ≤ w → ltb p (2 ^ n) ≡ true
  unfolding full
  none-past h = let q = e ∙ entrants-full n few in lt-ltb p (2 ^ n) (omega (arith, pow_pos n))

last : (a b c d : Bool) → a ≡ true → b ≡ true → c ≡ true → d ≡ (a && b && c && d)
last a b c d p q r = rw (p, q, r)

pub returns-then-g : goal.returns-then-g
unfolding inside group_in_range
returns-then-g c = simp (ne_eqb _ _ c.if-g.true)

pub returns-then-entrants-g : goal.returns-then-entrants-g
unfolding inside group_in_range
returns-then-entrants-g c = simp (eq-eqb _ _ c.if-g.false, past _ _ _ (omega arith) c.entrants.ensures c.if-entrants-g.true)

pub returns-then-g-2 : goal.returns-then-g-2
unfolding inside group_in_range
returns-then-g-2 c =
    simp (
      eq-eqb _ _ c.if-g.false,
      none-past _ _ _ (omega arith) c.entrants.ensures c.if-entrants-g.false,
      lt-leb _ _ c.if-g-2.true,
    )

pub returns : goal.returns
unfolding inside group_in_range
returns c =
    last _ _ _ _ (eq-eqb _ _ c.if-g.false)
    (none-past _ _ _ (omega arith) c.entrants.ensures c.if-entrants-g.false)
    (le-leb _ _ c.if-g-2.false)
