-- `is_good` judges a field. Assumes nothing.
use Prim.Native.Nat.{ℕ}
use mathlib.Core.Path.{◌≡◌, refl, sym, ◌∙◌}
use mathlib.Core.Bool.{Bool, true, false, ◌&&◌}
use mathlib.Core.List.{List}
use lib.Dec.{leb, eqb}
use Rattle.model.specs.declared.Field.{Field}
use Rattle.model.specs.declared.Field.TheVariants.{Blank}
use Rattle.model.specs.Sheet.{field_at, field_value, field_refusal, value_at, is_mark_column, good_field}
use Rattle.line_fault.proofs.is_good.Goals as goal

-- field i has the bytes f, which read as x, the case k
reads : (l : List ℕ) (i : ℕ) (f : List ℕ) (x k : Field) → f ≡ field_at l i → x ≡ field_value f → x ≡ k
    → good_field l i ≡ eqb (field_refusal k (is_mark_column l i)) 0
unfolding good_field
reads l i f x k a b q = rw (← a, ← b, q)

blank : (m : Bool) → eqb (field_refusal Blank m) 0 ≡ m
blank true = refl
blank false = refl

column : (l : List ℕ) (i kind : ℕ) (m : Bool) → kind ≡ value_at l 0 → m ≡ (leb 4 i && eqb kind 2) → m ≡ is_mark_column l i
unfolding is_mark_column
column l i kind m a b = rw (← a) b

pub returns-in-Number : goal.returns-in-Number
returns-in-Number c = sym (reads _ _ _ _ _ c.field.ensures c.read_field.ensures.value c.in-Number.is)

pub returns-in-Blank : goal.returns-in-Blank
returns-in-Blank c = column _ _ _ _ c.value.ensures c.is_mark_column.ensures ∙ sym (reads _ _ _ _ _ c.field.ensures c.read_field.ensures.value c.in-Blank.is ∙ blank _)

pub returns-in-Bad : goal.returns-in-Bad
returns-in-Bad c = sym (reads _ _ _ _ _ c.field.ensures c.read_field.ensures.value c.in-Bad.is)
