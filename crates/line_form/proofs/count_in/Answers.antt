-- `count_in` reads a number without needless zeros. Assumes nothing.
use Prim.Native.Nat.{ℕ, ◌≤◌, ◌<◌}
use mathlib.Core.Path.{◌≡◌, refl}
use mathlib.Core.Bool.{Bool, true, false, cond, ◌&&◌}
use mathlib.Core.List.{List}
use Rattle.std.specs.Prelude.{Option, None}
use borrow.Author.Tests.{eq-eqb, ne_eqb, lt-ltb, le-ltb}
use lib.Dec.{leb, ltb}
use lib.ListN.{length, get_or}
use Rattle.model.specs.Sheet.{number_of, digits_after}
use Rattle.line_form.proofs.count_in.Goals as goal
use Rattle.line_form.proofs.count_in.Goals.{then-d-gt1+else-d-eq48, else-d-gt1}

either : (b : Bool) → ◌≡◌ {A = Option ℕ} None (cond b None None)
either true = refl
either false = refl

module _ (t : List ℕ) where
  no-digits : length t ≡ 0 → number_of t ≡ None
  unfolding number_of
  no-digits h = rw (eq-eqb (length t) 0 h)

  needless : (length t ≡ 0 → ⊥) → 1 < length t → get_or t 0 0 ≡ 48 → number_of t ≡ None
  unfolding number_of
  needless n h e = rw (ne_eqb (length t) 0 n, lt-ltb 1 (length t) h, eq-eqb (get_or t 0 0) 48 e)

  one-digit : (length t ≡ 0 → ⊥) → length t ≤ 1 → digits_after 0 t ≡ number_of t
  unfolding number_of
  one-digit n h = rw (ne_eqb (length t) 0 n, le-ltb 1 (length t) h)

  digits : (length t ≡ 0 → ⊥) → (get_or t 0 0 ≡ 48 → ⊥) → digits_after 0 t ≡ number_of t
  unfolding number_of
  digits n m = rw (ne_eqb (length t) 0 n, ne_eqb (get_or t 0 0) 48 m) (go (ltb 1 (length t)))
    where
      go : (b : Bool) → digits_after 0 t ≡ cond (b && false) None (digits_after 0 t)
      go true = refl
      go false = refl

pub returns-then-d-eq0 : goal.returns-then-d-eq0
returns-then-d-eq0 c = rw (no-digits c.args.d.now c.if-d-eq0.true) (either (leb (length c.args.d.now) 9))

pub returns-then-d-eq48 : goal.returns-then-d-eq48
returns-then-d-eq48 c = rw (needless c.args.d.now c.if-d-eq0.false c.if-d-gt1.true c.if-d-eq48.true) (either (leb (length c.args.d.now) 9))

pub returns : goal.returns
returns c =
    let t = c.args.d.now in
    elim c.if-d-gt1.branch [
      | then-d-gt1+else-d-eq48 w ↦ rw (digits t c.if-d-eq0.false w.if-d-eq48.false) at c.decimal.ensures
      | else-d-gt1 w ↦ rw (one-digit t c.if-d-eq0.false w.if-d-gt1.false) at c.decimal.ensures
    ]
