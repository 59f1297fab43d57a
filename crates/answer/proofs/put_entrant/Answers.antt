-- `put_entrant` writes a blank and the number, or nothing. Assumes nothing.
use Prim.Native.Nat.{ℕ, ◌+◌, ◌/◌, ◌%◌, ◌^◌}
use mathlib.Core.Path.{◌≡◌, sym}
use mathlib.Core.Bool.{true, false}
use native.Mathlib.Omega.{arith}
use borrow.Author.Tests.{eq-eqb, ne_eqb}
use Rattle.model.specs.Words.{bit, has}
use Rattle.model.specs.Text.{decimal}
use Rattle.text.proofs.Writes.{wrote, same_text, done}
use Rattle.answer.proofs.Writing.{then-put}
use Rattle.answer.proofs.Groups.{entrant-in, entrant-out}
use Rattle.answer.proofs.put_entrant.Goals as goal

is_in : (w e : ℕ) → w / 2 ^ e % 2 ≡ 1 → has w e ≡ true
unfolding has bit
is_in w e h = eq-eqb _ _ h

is-out : (w e : ℕ) → (w / 2 ^ e % 2 ≡ 1 → ⊥) → has w e ≡ false
unfolding has bit
is-out w e h = ne_eqb _ _ h

pub returns-then-w-e-eq1 : goal.returns-then-w-e-eq1
returns-then-w-e-eq1 c =
    let there = entrant-in c.args.w c.args.e (is_in c.args.w c.args.e c.if-w-e-eq1.true) in
    let room = rw there at c.requires.e_in_bounds in
    let blank = c.put_bytes-n.ensures in
    let number = c.put_number.ensures in
    same_text (sym there)
    (then-put (decimal (c.args.e + 1)) (wrote blank.value blank.buf_after (omega arith)) number.value number.buf_after room)

pub returns : goal.returns
returns c =
    same_text (sym (entrant-out c.args.w c.args.e (is-out c.args.w c.args.e c.if-w-e-eq1.false)))
    (done c.args.at _ (omega (arith, c.requires.e_in_bounds)))
