-- A written block is no longer than its buffer. Assumes nothing.
use mathlib.Core.Path.{◌≡◌, ap}
use mathlib.Core.Bool.{Bool, true, false, cond}
use mathlib.Core.List.{List, ◌++◌}
use Prim.Native.Nat.{ℕ, ◌≤◌}
use native.Mathlib.Omega.{arith}
use lib.Dec.{eqb}
use lib.ListN.{length, drop, length-append}
use Rattle.model.specs.declared.Model.{Model}
use Rattle.model.specs.declared.Written.TheVariants.{Bytes, Refused}
use Rattle.model.specs.Text.{block_text, block_refusal, written_block, block_buffer}

inside : (t : Bool) (n r : ℕ) (text buf after : List ℕ) → Bytes n ≡ cond t (Bytes (length text)) (Refused r)
    → after ≡ cond t (text ++ drop (length text) buf) buf → length after ≡ length buf → n ≤ length buf
inside true n r text buf after e q k =
    let l : n ≡ length text = cc in
    omega (arith, simp length-append at (ap length q))
inside false n r text buf after e q k = let z : ◌≡◌ {A = ℕ} 0 1 = cc in omega arith

pub written-inside : (m : Model) (b n : ℕ) (buf after : List ℕ) → Bytes n ≡ written_block m b (length buf) → after ≡ block_buffer m b buf
    → length after ≡ length buf → n ≤ length buf
unfolding written_block block_buffer
written-inside m b n buf after e q k =
    inside (eqb (block_refusal m b (length buf)) 0) n (block_refusal m b (length buf)) (block_text m b) buf after e q k
