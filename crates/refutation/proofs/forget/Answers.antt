-- `forget` clears a place of the index. Assumes nothing.
use mathlib.Core.Path.{refl}
use Rattle.std.proofs.Common.{ℕ, ◌+◌, ◌%◌, ◌^◌, ap, arith}
use Rattle.refutation.proofs.Equations.{forget-none, forget-made}
use Rattle.refutation.proofs.Steps.{keep-each, forget-kept}
use Rattle.refutation.proofs.forget.Goals as goal

pub returns-then-index-i : goal.returns-then-index-i
returns-then-index-i c = record { keeps = keep-each c.refuse.ensures.holds; value = forget-none _ _ _ _ _ refl c.if-index-i.true _ c.refuse.ensures.value }

pub returns : goal.returns
returns c =
    let freed = c.places-freed.ensures in record {
      keeps = record { keeps = λ a h. forget-kept h _ };
      value = forget-made _ _ _ _ _ refl (omega (arith, c.if-index-i.false)) _
          (ap (λ (k : ℕ). (c.args.s.dead + k) % 2 ^ 64) freed);
    }
