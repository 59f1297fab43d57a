-- A refusal's number is not 0, and what is not refused is judged 0. Assumes nothing.
use Prim.Native.Nat.{ℕ}
use mathlib.Core.Path.{◌≡◌, refl}
use mathlib.Core.Bool.{true, false}
use native.Mathlib.Omega.{arith}
use Rattle.std.specs.Prelude.{Result, Ok, Err}
use Rattle.std.specs.Result.{is_ok}
use Rattle.sheet.specs.declared.Refusal.{Refusal}
use Rattle.sheet.specs.declared.Refusal.TheVariants.{Width, Field, Kind, Count, Range, Order, Twice}
use Rattle.sheet.specs.Refusals.{refusal_number, judged}

pub positive : (r : Refusal) → refusal_number r ≡ 0 → ⊥
positive Width e = omega arith
positive Field e = omega arith
positive Kind e = omega arith
positive Count e = omega arith
positive Range e = omega arith
positive Order e = omega arith
positive Twice e = omega arith

pub accepted : (r : Result (Unit {0}) Refusal) → ((e : Refusal) → r ≡ Err e → ⊥) → judged r ≡ 0
accepted (Ok done) f = refl
accepted (Err e) f = absurd (f e refl)

-- by the test that the code makes of a judgement
pub refused : (r : Result (Unit {0}) Refusal) → is_ok r ≡ false → judged r ≡ 0 → ⊥
refused (Ok done) e z = let q : true ≡ false = e in let n : ◌≡◌ {A = ℕ} 0 1 = cc in omega arith
refused (Err why) e z = positive why z

pub passed : (r : Result (Unit {0}) Refusal) → is_ok r ≡ true → judged r ≡ 0
passed (Ok done) e = refl
passed (Err why) e = let q : false ≡ true = e in let n : ◌≡◌ {A = ℕ} 0 1 = cc in absurd (omega arith)
