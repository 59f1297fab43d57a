-- `entrants` is the word of the entrants 1 to n; as many as a word has bits fill it. Assumes nothing.
use Prim.Native.Nat.{ℕ, ◌^◌, ◌-◌, min}
use mathlib.Core.Path.{◌≡◌, ◌∙◌, ap}
use lib.Pow.{pow_pos}
use native.Mathlib.Omega.{arith}
use Rattle.model.specs.Limits.{limits}
use Rattle.model.specs.Words.{full}
use Rattle.model.proofs.Words.{shifted}
use Rattle.model.proofs.entrants.Goals as goal

pub overflow_sub-result : goal.overflow_sub-result
overflow_sub-result c = omega (arith, shifted c.args.n c.if-n-lt-WORD.true, pow_pos c.args.n)

pub returns-then-n-lt-WORD : goal.returns-then-n-lt-WORD
unfolding full
returns-then-n-lt-WORD c =
    let e : c.args.n ≡ min c.args.n limits.word = omega (arith, c.if-n-lt-WORD.true) in
    ap (λ (x : ℕ). x - 1) (shifted c.args.n c.if-n-lt-WORD.true) ∙ ap (λ (k : ℕ). 2 ^ k - 1) e

pub returns : goal.returns
unfolding full
returns c =
    let e : limits.word ≡ min c.args.n limits.word = omega (arith, c.if-n-lt-WORD.false) in
    ap (λ (k : ℕ). 2 ^ k - 1) e
