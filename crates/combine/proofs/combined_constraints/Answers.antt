use mathlib.Core.Path.{◌≡◌, refl, sym, ap, ◌∙◌, subst}
use Prim.Native.Nat.{ℕ, ◌+◌, ◌-◌, ◌≤◌, ◌<◌}
use native.Mathlib.Nat.{zero-add}
use native.Mathlib.Omega.{arith}
use mathlib.Core.List.{List, [], ◌++◌, map, append-nil, map-append}
use lib.ListN.{length, set, get_or, take, replicate, length-map}
use lib.Seq.{take_at, length-take-le}
use Rattle.model.specs.declared.Constraint.{Constraint}
use Rattle.model.specs.Model.{zero_constraint}
use Rattle.model.specs.SheetText.{clean_constraint}
use Rattle.combine.proofs.Lines.{Stored, line-stored}
use Rattle.combine.proofs.combined_constraints.Invariants.{n}
use Rattle.combine.proofs.combined_constraints.Goals as goal

-- ---- the lines of a
first-stored : (xs lines : List Constraint) (i : ℕ) (x d : Constraint) → i < length xs → i < n → Stored n [] xs i lines
    → x ≡ clean_constraint (get_or xs i d) → Stored n [] xs (i + 1) (set lines i x)
first-stored xs lines i x d h l e f =
    subst (λ (j : ℕ). Stored n [] xs (i + 1) (set lines j x)) {x = 0 + i} {y = i} (zero-add i)
    (line-stored n [] xs lines i x d h (omega arith) e f)

-- ---- then those of b: all of a's are the front
module _ (xs lines : List Constraint) (k : ℕ) (h : k ≤ length xs) (e : Stored n [] xs k lines) where
  front : take k lines ≡ map clean_constraint (take k xs)
  front =
      ap (take k) e
      ∙ take_at (map clean_constraint (take k xs)) (replicate (n - (0 + k)) zero_constraint) k (length-map (take k xs) clean_constraint ∙ length-take-le k xs h)

  front_length : length (take k lines) ≡ k
  front_length = ap length front ∙ length-map (take k xs) clean_constraint ∙ length-take-le k xs h

  begun : (ys : List Constraint) → Stored n (take k lines) ys 0 lines
  begun ys =
      let z : k + 0 ≡ 0 + k = omega arith in
      e ∙ sym (rw (front_length, front, append-nil (map clean_constraint (take k xs)), z) refl)

  done : (ys r : List Constraint) (l : ℕ) → Stored n (take k lines) ys l r
      → r ≡ map clean_constraint (take k xs ++ take l ys) ++ replicate (n - (k + l)) zero_constraint
  done ys r l f = f ∙ rw (front_length, front, map-append clean_constraint (take k xs) (take l ys)) refl

pub loop-i-init : goal.loop-i-init
unfolding zero_constraint
loop-i-init c = refl

pub loop-i-preserved : goal.loop-i-preserved
loop-i-preserved c =
    let l = c.loop-i in
    first-stored c.args.a.now l.constraints l.i c.clean.result _ (omega arith) (omega arith) l.invariant c.clean.ensures

pub loop-j-preserved : goal.loop-j-preserved
loop-j-preserved c =
    let p = c.loop-i in
    let l = c.loop-j in
    let e : p.i ≡ c.args.k = omega arith in
    let long = front_length c.args.a.now p.constraints c.args.k (omega arith) (subst (λ (i : ℕ). Stored n [] c.args.a.now i p.constraints) e p.invariant) in
    let x = c.clean-in-loop-j.result in
    subst (λ (k : ℕ). Stored n (take c.args.k p.constraints) c.args.b.now (l.j + 1) (set l.constraints (k + l.j) x)) long
    (line-stored n (take c.args.k p.constraints) c.args.b.now l.constraints l.j x _ (omega arith) (omega (arith, long)) l.invariant c.clean-in-loop-j.ensures)
