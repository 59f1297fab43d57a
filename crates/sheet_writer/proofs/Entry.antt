-- What the entry answers: a refusal, or the sheet's text. Assumes nothing.
use mathlib.Core.Path.{◌≡◌, refl, sym, ap, ◌∙◌}
use Prim.Native.Nat.{ℕ, suc, ◌≤◌, ◌<◌}
use native.Mathlib.Nat.{zero-add}
use native.Mathlib.Omega.{arith}
use mathlib.Core.Bool.{Bool, true, false, cond, not}
use mathlib.Core.List.{List, ◌++◌}
use borrow.Author.Tests.{lt-ltb, le-ltb, ltb-false}
use lib.Dec.{ltb, eqb, eqb-suc-zero}
use lib.ListN.{length, drop}
use Rattle.model.specs.declared.Model.{Model}
use Rattle.model.specs.declared.Written.{Written}
use Rattle.model.specs.declared.Written.TheVariants.{Bytes, Refused}
use Rattle.model.specs.Lists.{stop}
use Rattle.model.specs.Model.{in_range}
use Rattle.model.specs.Text.{written_refusal, written_length}
use Rattle.model.specs.SheetText.{sheet_text, sheet_refusal, written_sheet, sheet_buffer}
use Rattle.text.specs.Put.{Wrote}
use Rattle.sheet_writer.specs.Parts.{sheet_length}

-- the answer, the buffer after it, and document 01's number and value
abbrev Answers : Model → List ℕ → List ℕ → Written → Type 0
Answers m before after r =
    (r ≡ written_sheet m (length before))
    × ((after ≡ sheet_buffer m before)
    × ((written_refusal r ≡ sheet_refusal m (length before)) × (written_length r ≡ sheet_length m (length before))))

module _ (m : Model) (buf : List ℕ) where
  refused : (r : ℕ) → sheet_refusal m (length buf) ≡ suc r → Answers m buf buf (Refused (suc r))
  unfolding written_sheet sheet_buffer sheet_length
  refused r e = (rw (e, eqb-suc-zero r), (rw (e, eqb-suc-zero r), (sym e, rw (e, eqb-suc-zero r))))

  pub out_of_range : in_range m ≡ false → Answers m buf buf (Refused 20)
  unfolding sheet_refusal
  out_of_range e = refused 19 (rw e)

  pub too_short : in_range m ≡ true → length buf < length (sheet_text m) → Answers m buf buf (Refused 24)
  unfolding sheet_refusal
  too_short e h = refused 23 (rw (e, lt-ltb (length buf) (length (sheet_text m)) h))

  pub written : in_range m ≡ true → (after : List ℕ) (n : ℕ) → Wrote (sheet_text m) 0 buf after n → Answers m buf after (Bytes n)
  unfolding sheet_refusal written_sheet sheet_buffer sheet_length
  written e after n w =
      let l : n ≡ length (sheet_text m) = w.next ∙ zero-add (length (sheet_text m)) in
      let h = le-ltb (length buf) (length (sheet_text m)) (omega (arith, w.inside)) in (
        rw (e, h, l),
        (rw (e, h) (w.bytes ∙ ap (λ (k : ℕ). sheet_text m ++ drop k buf) (zero-add (length (sheet_text m)))), (rw (e, h), rw (e, h) l)),
      )

-- what is written is within the buffer
pub within-room : (m : Model) (room n : ℕ) (r : Written) → r ≡ written_sheet m room → r ≡ Bytes n → n ≤ room
unfolding written_sheet sheet_refusal
within-room m room n r e f = go (in_range m) (ltb room (length (sheet_text m))) refl (sym f ∙ e)
  where
    go : (x y : Bool) → ltb room (length (sheet_text m)) ≡ y
        → Bytes n ≡ cond (eqb (stop (not x) 20 (stop y 24 0)) 0) (Bytes (length (sheet_text m))) (Refused (stop (not x) 20 (stop y 24 0))) → n ≤ room
    go false y q z = absurd (let d : ◌≡◌ {A = ℕ} 0 1 = cc in omega arith)
    go true true q z = absurd (let d : ◌≡◌ {A = ℕ} 0 1 = cc in omega arith)
    go true false q z = omega (arith, ap written_length z, ltb-false room (length (sheet_text m)) q)
