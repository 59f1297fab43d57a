-- The texts of this crate's tables after a message, columns and ranges. Assumes nothing.
use Prim.Native.Nat.{ℕ, ◌+◌, ◌^◌, ◌≤◌, ◌<◌}
use mathlib.Core.Path.{◌≡◌, refl}
use mathlib.Core.Bool.{Bool, true, false, cond}
use mathlib.Core.List.{List, ◌++◌}
use native.Mathlib.Omega.{arith}
use lib.Dec.{eqb}
use lib.ListN.{length}
use Rattle.report.specs.declared.Message.{Message}
use Rattle.report.specs.Messages.{bytes, added}
use Rattle.report.proofs.Laws.{Says, picked, start, same, add-text, add-decimal}
use Rattle.line_fault.specs.declared.Columns.{Columns}
use Rattle.model.specs.Text.{decimal}
use Rattle.line_fault.specs.declared.Name.{Name}
use Rattle.line_fault.specs.declared.Name.TheVariants as name
use Rattle.fault_text.specs.Texts.{name_text, due_text, columns_message, added_range}

name_length : (x : Name) → length (name_text x) ≤ 49
unfolding name_text
name_length name.Entrants = omega arith
name_length name.Groups = omega arith
name_length name.GroupsOfMany = omega arith
name_length name.Constraints = omega arith
name_length name.Low = omega arith
name_length name.High = omega arith
name_length name.Mark = omega arith
name_length name.Group = omega arith
name_length name.Code = omega arith
name_length name.Count = omega arith
name_length name.Kind = omega arith
name_length name.NextGroup = omega arith
name_length (name.Other n) = omega arith

pub add-name : (x : Name) {m r : Message} {v t : List ℕ} {k : ℕ} → r ≡ added m v → v ≡ name_text x → Says m t k → Says r (t ++ name_text x) (k + 49)
add-name x = picked (name_text x) 49 (name_length x)

due_length : (due : ℕ) → length (due_text due) ≤ 31
unfolding due_text
due_length due = go (eqb due 2) (eqb due 3)
  where
    go : (a b : Bool) → length (cond a (bytes "; a group (2) is due here\n") (cond b (bytes "; a constraint (3) is due here\n") (bytes "\n"))) ≤ 31
    go true b = omega arith
    go false true = omega arith
    go false false = omega arith

pub add-due : (x : ℕ) {m r : Message} {v t : List ℕ} {k : ℕ} → r ≡ added m v → v ≡ due_text x → Says m t k → Says r (t ++ due_text x) (k + 31)
add-due x = picked (due_text x) 31 (due_length x)

pub add-columns : (at : Columns) → at.first < 2 ^ 32 → at.last < 2 ^ 32 → {r : Message} → r ≡ columns_message at
    → Says r (bytes "columns " ++ decimal at.first ++ bytes " to " ++ decimal at.last) 32
unfolding columns_message
add-columns at h k e =
    add-decimal at.last k e
    (add-text (bytes " to ") refl
    (add-decimal at.first h refl
    (add-text (bytes "columns ") refl
    (start refl))))

pub add-range : (low high : ℕ) → low < 2 ^ 32 → high < 2 ^ 32 → {m r : Message} {t : List ℕ} {k : ℕ} → r ≡ added_range m low high → Says m t k
    → Says r (cond (eqb low high) (t ++ decimal low ++ bytes "\n") (t ++ decimal low ++ bytes " to " ++ decimal high ++ bytes "\n")) (k + 25)
unfolding added_range
add-range low high h1 h2 {m} {r} {t} {k} e s = go (eqb low high) e
  where
    go : (b : Bool) → r ≡ cond b (added (added m (decimal low)) (bytes "\n")) (added (added (added (added m (decimal low)) (bytes " to ")) (decimal high)) (bytes "\n"))
        → Says r (cond b (t ++ decimal low ++ bytes "\n") (t ++ decimal low ++ bytes " to " ++ decimal high ++ bytes "\n")) (k + 25)
    go true e = same refl (omega arith) (add-text (bytes "\n") e (add-decimal low h1 refl s))
    go false e =
        same refl (omega arith)
        (add-text (bytes "\n") e (add-decimal high h2 refl (add-text (bytes " to ") refl (add-decimal low h1 refl s))))
