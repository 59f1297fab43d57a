-- `line_length` is the place of the first byte 10, or the length. Assumes nothing.
use mathlib.Core.Path.{◌≡◌, refl}
use Prim.Native.Nat.{ℕ}
use native.Mathlib.Omega.{arith}
use mathlib.Core.List.{List}
use lib.Dec.{eqb}
use Rattle.std.specs.List.{position_or_len}
use Rattle.sheet.specs.Line.{line_length}
use Rattle.model.proofs.Search.{counts-before}
use Rattle.sheet.proofs.Reading.{line-inside}
use Rattle.sheet.proofs.line_length.Goals as goal

before : (l : List ℕ) → position_or_len (λ b. eqb b 10) l ≡ line_length l
before l = counts-before (λ b. eqb b 10) line_length refl (λ b bs. refl) l

pub overflow_add-result : goal.overflow_add-result
overflow_add-result c = omega (arith, c.length_before.ensures, before c.loop-bytes.rest.now, line-inside c.loop-bytes.rest.now, c.loop-bytes.invariant)

pub returns : goal.returns
returns c = omega (arith, c.length_before.ensures, before c.loop-bytes.rest.now, c.loop-bytes.invariant)
