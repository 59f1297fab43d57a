-- `constraint_length` counts four bytes a field and byte 10. Assumes nothing.
use mathlib.Core.Path.{◌≡◌, sym, ap₂, ◌∙◌}
use Prim.Native.Nat.{ℕ, ◌+◌, ◌≤◌}
use mathlib.Core.Bool.{Bool, cond}
use native.Mathlib.Omega.{arith}
use borrow.Author.Tests.{eq-eqb, ne_eqb}
use lib.Dec.{T, eqb}
use lib.ListN.{length}
use Rattle.model.specs.declared.Constraint.{Constraint}
use Rattle.model.specs.Limits.{limits}
use Rattle.model.specs.Clauses.{member_count}
use Rattle.model.specs.Model.{constraint_in_range}
use Rattle.model.proofs.Codes.{member-bound}
use Rattle.propagation_laws.proofs.Ranges.{constraint-code}
use Rattle.sheet_writer.specs.Parts.{constraint_text, line_length}
use Rattle.sheet_writer.proofs.Lengths.{constraint-bound, constraint-length}
use Rattle.sheet_writer.proofs.constraint_length.Goals as goal

module _ (s : ℕ) (k : Constraint) (p : T (constraint_in_range s k) × (s ≤ limits.groups)) where
  few : member_count k.code k.count ≤ limits.members
  few = member-bound k.code k.count (constraint-code s k p.0)

  line : length k.groups ≡ limits.members → (six : Bool) → eqb k.code 6 ≡ six → (n : ℕ) → n ≡ member_count k.code k.count
      → (r : ℕ) → r ≡ line_length (cond six 3 2 + n) → (r ≡ length (constraint_text k)) × (r ≤ line_length (3 + limits.members))
  line wide six e n q r z =
      let x : r ≡ length (constraint_text k) =
      z ∙ ap₂ (λ (b : Bool) (x : ℕ). line_length (cond b 3 2 + x)) (sym e) q ∙ sym (constraint-length s k p.0 p.1 (omega arith)) in
      (x, omega (arith, x, constraint-bound s k p.0 p.1))

pub overflow_add-k : goal.overflow_add-k
overflow_add-k c = record { fits = omega (arith, few c.args.s c.args.c.now c.requires) }

pub line_length-requires : goal.line_length-requires
line_length-requires c = omega (arith, few c.args.s c.args.c.now c.requires)

pub returns-then-c-eq6 : goal.returns-then-c-eq6
returns-then-c-eq6 c =
    line c.args.s c.args.c.now c.requires (omega arith) _ (eq-eqb _ _ c.if-c-eq6.true) _
    c.member_count-k.ensures _ c.line_length.ensures

pub overflow_add-k-2 : goal.overflow_add-k-2
overflow_add-k-2 c = record { fits = omega (arith, few c.args.s c.args.c.now c.requires) }

pub line_length-requires-2 : goal.line_length-requires-2
line_length-requires-2 c = omega (arith, few c.args.s c.args.c.now c.requires)

pub returns : goal.returns
returns c =
    line c.args.s c.args.c.now c.requires (omega arith) _ (ne_eqb _ _ c.if-c-eq6.false) _
    c.member_count-k.ensures _ c.line_length-2.ensures
