-- `places`: none where no clause can stand. Assumes nothing.
use mathlib.Core.Path.{refl}
use Rattle.std.proofs.Common.{arith}
use Rattle.refutation.proofs.Equations.{places-at-0, places-no-store, places-outside, places-too-long, places-held}
use Rattle.refutation.proofs.places.Goals as goal

pub returns-then-c-eq0 : goal.returns-then-c-eq0
returns-then-c-eq0 c = places-at-0 _ _ c.if-c-eq0.true

pub returns-then-store-lt2 : goal.returns-then-store-lt2
returns-then-store-lt2 c = places-no-store _ _ c.if-c-eq0.false c.if-store-lt2.true

pub returns-then-store-c : goal.returns-then-store-c
returns-then-store-c c = places-outside _ _ c.if-c-eq0.false (omega (arith, c.if-store-lt2.false)) c.if-store-c.true

pub returns-then-store-n : goal.returns-then-store-n
returns-then-store-n c = places-too-long _ _ c.if-c-eq0.false (omega (arith, c.if-store-lt2.false)) (omega (arith, c.if-store-c.false)) _ refl c.if-store-n.true

pub returns : goal.returns
returns c = places-held _ _ c.if-c-eq0.false (omega (arith, c.if-store-lt2.false)) (omega (arith, c.if-store-c.false)) _ refl (omega (arith, c.if-store-n.false))
