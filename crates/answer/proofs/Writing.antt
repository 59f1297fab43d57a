-- Writes one after the other, and lengths of texts in a row. Assumes nothing.
use Prim.Native.Nat.{ℕ, ◌+◌, ◌*◌, ◌≤◌, ◌<◌}
use mathlib.Core.Path.{◌≡◌, refl}
use mathlib.Core.List.{List, ◌++◌}
use mathlib.Core.Bool.{Bool, true, false, cond}
use native.Mathlib.Omega.{arith}
use borrow.Author.Tests.{ltb-false}
use lib.Dec.{ltb}
use Rattle.model.specs.declared.Written.TheVariants.{Bytes, Refused}
use lib.ListN.{length, length-append}
use Rattle.std.specs.List.{flat_map}
use Rattle.model.specs.Lists.{range}
use Rattle.model.proofs.Lists.{length-each, total-le, range_all, range_length}
use Rattle.text.specs.Put.{Wrote, placed, place_after}
use Rattle.text.proofs.Writes.{wrote, then, kept}

-- a total writer's text after what is written, where there is room for both
pub then-put : {t xs ys zs : List ℕ} {a n k : ℕ} (u : List ℕ) → Wrote t a xs ys n → k ≡ place_after u n (length ys) → zs ≡ placed u n ys
    → a + length (t ++ u) ≤ length xs → Wrote (t ++ u) a xs zs k
then-put {t} u w p q h = then w (wrote p q (omega (arith, kept w, w.next, length-append t u)))

-- texts in a row, each of up to `most` bytes
pub each-length : (f : ℕ → List ℕ) (most k : ℕ) → ((i : ℕ) → i < k → length (f i) ≤ most) → length (flat_map f (range 0 k)) ≤ k * most
each-length f most k h =
    rw (length-each f (range 0 k))
    (rw (range_length 0 k) at (total-le (λ i. length (f i)) most (range 0 k) (range_all (λ i. length (f i) ≤ most) 0 k (λ i lo hi. h i (omega arith)))))

-- a text that is written is no longer than its buffer
pub fits : (room len n : ℕ) → Bytes n ≡ cond (ltb room len) (Refused 24) (Bytes len) → n ≤ room
fits room len n e = go (ltb room len) refl e
  where
    go : (t : Bool) → ltb room len ≡ t → Bytes n ≡ cond t (Refused 24) (Bytes len) → n ≤ room
    go true q e = let z : ◌≡◌ {A = ℕ} 0 1 = cc in omega arith
    go false q e = let l : n ≡ len = cc in omega (arith, ltb-false room len q)
