-- `number_at` gives the number in a field. Assumes nothing.
use Prim.Native.Nat.{ℕ}
use mathlib.Core.Path.{◌≡◌, refl}
use mathlib.Core.Bool.{Bool, ◌&&◌}
use mathlib.Core.List.{List}
use lib.Dec.{leb, eqb}
use Rattle.model.specs.declared.Field.{Field}
use Rattle.model.specs.Sheet.{field_at, field_value, field_number, value_at, is_mark_column}
use Rattle.line_fault.specs.Fault.{number_at}
use Rattle.line_fault.proofs.number_at.Goals as goal

-- field i has the bytes f, which read as x, the case k, in a column that is m
reads : (l : List ℕ) (i kind : ℕ) (m column : Bool) (f : List ℕ) (x k : Field) → kind ≡ value_at l 0 → m ≡ (leb 4 i && eqb kind 2) → m ≡ column
    → f ≡ field_at l i → x ≡ field_value f → x ≡ k → field_number k column ≡ number_at l i
unfolding number_at is_mark_column
reads l i kind m column f x k a b e d g q = rw (← a, ← b, ← d, ← g, q, e)

pub returns-in-Number : goal.returns-in-Number
returns-in-Number c = reads _ _ _ _ _ _ _ _ c.value.ensures c.is_mark_column-mark.ensures refl c.field.ensures c.read_field.ensures.value c.in-Number.is

pub returns-then-mark : goal.returns-then-mark
returns-then-mark c = reads _ _ _ _ _ _ _ _ c.value.ensures c.is_mark_column-mark.ensures c.if-mark.true c.field.ensures c.read_field.ensures.value c.in-Blank.is

pub returns-else-mark : goal.returns-else-mark
returns-else-mark c = reads _ _ _ _ _ _ _ _ c.value.ensures c.is_mark_column-mark.ensures c.if-mark.false c.field.ensures c.read_field.ensures.value c.in-Blank.is

pub returns-in-Bad : goal.returns-in-Bad
returns-in-Bad c = reads _ _ _ _ _ _ _ _ c.value.ensures c.is_mark_column-mark.ensures refl c.field.ensures c.read_field.ensures.value c.in-Bad.is
