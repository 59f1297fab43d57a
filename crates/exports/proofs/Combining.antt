-- What combining two sheets, or two models, answers, refusal by refusal. Assumes nothing.
use mathlib.Core.Path.{◌≡◌}
use mathlib.Core.Bool.{true, false}
use mathlib.Core.List.{List}
use Prim.Native.Nat.{ℕ}
use borrow.Author.Tests.{ne_eqb, lt-ltb, le-ltb, leb-true, leb-false}
use lib.Dec.{leb}
use lib.ListN.{length}
use Rattle.model.specs.declared.SheetRead.{SheetRead}
use Rattle.model.specs.declared.Combined.{Combined}
use Rattle.model.specs.declared.Written.TheVariants.{Refused}
use Rattle.model.specs.Sheet.{read_sheet}
use Rattle.model.specs.SheetText.{written_sheet, sheet_buffer}
use Rattle.model.specs.Combine.{combined}
use Rattle.words.specs.Words.{model_from}
use Rattle.packing.specs.Packing.{written_number, model_size, model_laid}
use Rattle.exports.specs.Draw.{combined_sheets, draw_combine, draw_combined, model_combine, model_combined}

-- ---- two sheets

module _ (x y : List ℕ) (a : SheetRead) (e : a ≡ read_sheet x) where
  pub first-unread : (a.refusal ≡ 0 → ⊥) → ◌≡◌ {A = Combined} (record { refusal = a.refusal; model = a.model }) (combined_sheets x y)
  unfolding combined_sheets
  first-unread h = rw (← e, ne_eqb a.refusal 0 h)

  module _ (z : a.refusal ≡ 0) (b : SheetRead) (f : b ≡ read_sheet y) where
    pub second-unread : (b.refusal ≡ 0 → ⊥) → ◌≡◌ {A = Combined} (record { refusal = b.refusal; model = b.model }) (combined_sheets x y)
    unfolding combined_sheets
    second-unread h = rw (← e, z, ← f, ne_eqb b.refusal 0 h)

    pub both_read : b.refusal ≡ 0 → combined a.model b.model ≡ combined_sheets x y
    unfolding combined_sheets
    both_read w = rw (← e, z, ← f, w)

module _ (x y : List ℕ) (r : Combined) (e : r ≡ combined_sheets x y) (buffer : List ℕ) where
  pub sheets-refused : (r.refusal ≡ 0 → ⊥) → (written_number (Refused r.refusal) ≡ draw_combine x y (length buffer)) × (buffer ≡ draw_combined x y buffer)
  unfolding draw_combine draw_combined
  sheets-refused h = (rw (← e, ne_eqb r.refusal 0 h), rw (← e, ne_eqb r.refusal 0 h))

  pub sheets-combined : r.refusal ≡ 0
      → (written_number (written_sheet r.model (length buffer)) ≡ draw_combine x y (length buffer)) × (sheet_buffer r.model buffer ≡ draw_combined x y buffer)
  unfolding draw_combine draw_combined
  sheets-combined z = (rw (← e, z), rw (← e, z))

-- ---- two models

module _ (x y : List ℕ) (r : Combined) (e : r ≡ combined (model_from x) (model_from y)) (words : List ℕ) where
  pub models-refused : (r.refusal ≡ 0 → ⊥) → (r.refusal ≡ model_combine x y (length words)) × (words ≡ model_combined x y words)
  unfolding model_combine model_combined
  models-refused h = (rw (← e, ne_eqb r.refusal 0 h), rw (← e, ne_eqb r.refusal 0 h))

  module _ (z : r.refusal ≡ 0) where
    pub models-short : leb model_size (length words) ≡ false → (24 ≡ model_combine x y (length words)) × (model_laid r.model words ≡ model_combined x y words)
    unfolding model_combine model_combined
    models-short h = (rw (← e, z, lt-ltb (length words) model_size (leb-false model_size (length words) h)), rw (← e, z))

    pub models-combined : leb model_size (length words) ≡ true → (0 ≡ model_combine x y (length words)) × (model_laid r.model words ≡ model_combined x y words)
    unfolding model_combine model_combined
    models-combined h = (rw (← e, z, le-ltb (length words) model_size (leb-true model_size (length words) h)), rw (← e, z))
