-- Laws of constraints as the reader would give them: one after the other stored over zeros. Assumes nothing.
use mathlib.Core.Path.{◌≡◌, ap, ◌∙◌}
use Prim.Native.Nat.{ℕ, ◌+◌, ◌-◌, ◌<◌}
use native.Mathlib.Numerals.{add-one}
use native.Mathlib.Omega.{arith}
use mathlib.Core.List.{List, [], ◌∷◌, ◌++◌, map, map-append, append_assoc}
use lib.ListN.{length, get_or, set, take, replicate, length-append, length-map}
use lib.Seq.{take-suc, length-take-le}
use Rattle.model.specs.declared.Constraint.{Constraint}
use Rattle.model.specs.Model.{zero_constraint}
use Rattle.model.specs.SheetText.{clean_constraint}
use Rattle.model.proofs.Lists.{stored_next}

-- the lines of a front, then the first j of some others, then zeros
abbrev pub Stored : ℕ → List Constraint → List Constraint → ℕ → List Constraint → Type 0
Stored n front ys j lines = lines ≡ (front ++ map clean_constraint (take j ys)) ++ replicate (n - (length front + j)) zero_constraint

pub line-stored : (n : ℕ) (front ys lines : List Constraint) (j : ℕ) (x d : Constraint) → j < length ys → length front + j < n
    → Stored n front ys j lines → x ≡ clean_constraint (get_or ys j d) → Stored n front ys (j + 1) (set lines (length front + j) x)
line-stored n front ys lines j x d h l e f =
    let here = map clean_constraint (take j ys) in
    let long : length (front ++ here) ≡ length front + j =
    length-append front here ∙ ap (λ (i : ℕ). length front + i) (length-map (take j ys) clean_constraint ∙ length-take-le j ys (omega arith)) in
    let more : length front + j + 1 ≡ length front + (j + 1) = omega arith in
    let last : map clean_constraint (take (j + 1) ys) ≡ here ++ (x ∷ []) =
    rw (add-one j, f) (ap (map clean_constraint) (take-suc ys j d h) ∙ map-append clean_constraint (take j ys) (get_or ys j d ∷ [])) in
    ap (λ (r : List Constraint). set r (length front + j) x) e
    ∙ stored_next (front ++ here) n (length front + j) zero_constraint x long l
    ∙ rw (more, last) (ap (λ (r : List Constraint). r ++ replicate (n - (length front + (j + 1))) zero_constraint) (append_assoc front here (x ∷ [])))
