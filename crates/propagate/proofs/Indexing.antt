-- Laws of the index: a line in the rows of its groups, and all lines. Assumes nothing.
use mathlib.Core.Path.{◌≡◌, refl, sym, ap, ◌∙◌, subst}
use Prim.Native.Nat.{ℕ, ◌+◌, ◌-◌, ◌*◌, ◌≤◌, ◌<◌}
use native.Mathlib.Numerals.{add-one}
use native.Mathlib.Nat.{eq-or-lt_of_le}
use native.Mathlib.Omega.{arith}
use mathlib.Core.Logic.{⊎_elim}
use mathlib.Core.Bool.{Bool, true, false, ◌||◌}
use mathlib.Core.List.{List, [], ◌∷◌}
use borrow.Author.Tests.{eqb-true, eq-eqb}
use lib.Dec.{T, eqb, leb→le}
use lib.ListN.{length, get_or, take}
use lib.Seq.{take-suc}
use Rattle.model.specs.declared.Constraint.{Constraint}
use Rattle.std.specs.List.{list_all}
use Rattle.model.specs.Lists.{between}
use Rattle.model.specs.Limits.{limits}
use Rattle.model.specs.Clauses.{member_count, groups_of}
use Rattle.model.specs.Model.{zero_constraint, constraint_in_range, constraint_sized}
use Rattle.model.proofs.Lists.{any_append, every-getD, between_le, get_or-other, or-false}
use Rattle.model.proofs.Codes.{member-bound}
use Rattle.propagation_laws.proofs.Ranges.{constraint-code, groups-in}
use Rattle.marks.specs.Marks.{marked, with_mark}
use Rattle.marks.proofs.Bits.{mark_set, mark-length}
use Rattle.propagation_laws.proofs.Locality.{owns}
use Rattle.propagate.specs.Skip.{line_at, Index, AddsLine}

-- a group's number
pub id_between : (ids : List ℕ) (k : ℕ) → T (list_all (between 1 limits.groups) ids) → k < length ids → (1 ≤ get_or ids k 0) × (get_or ids k 0 ≤ 256)
id_between ids k t h = between_le 1 limits.groups (get_or ids k 0) (every-getD (between 1 limits.groups) ids 0 k t h)

-- ---- a line

or-true-left : (a b : Bool) → a ≡ true → (a || b) ≡ true
or-true-left a b e = rw e

or_true_right : (a b : Bool) → b ≡ true → (a || b) ≡ true
or_true_right true b e = refl
or_true_right false b e = e

pub line-next : (j : ℕ) (ids : List ℕ) (k : ℕ) (index now next : List ℕ) → AddsLine j (take k ids) index now → k < length ids → length index ≡ 1024 → j < 256
    → (i : ℕ) → i ≡ get_or ids k 0 - 1 → i < 256 → next ≡ with_mark (i * 256 + j) now → AddsLine j (take (k + 1) ids) index next
line-next j ids k index now next a h size small i e few is = record {
  size = ap length is ∙ mark-length now (i * 256 + j) ∙ a.size;
  old = λ m p. at m (or-true-left (marked now m) (eqb (i * 256 + j) m) (a.old m p));
  row = λ m p. go m (owns (take k ids) m) refl (sym (more m) ∙ p);
}
  where
    at : (m : ℕ) → (marked now m || eqb (i * 256 + j) m) ≡ true → marked next m ≡ true
    at m p = ap (λ (w : List ℕ). marked w m) is ∙ mark_set now (i * 256 + j) (omega (arith, a.size)) m ∙ p

    more : (m : ℕ) → owns (take (k + 1) ids) m ≡ (owns (take k ids) m || eqb (get_or ids k 0 - 1) m)
    more m =
        ap (λ (n : ℕ). owns (take n ids) m) (add-one k)
        ∙ ap (λ (l : List ℕ). owns l m) (take-suc ids k 0 h)
        ∙ any_append (λ g. eqb (g - 1) m) (take k ids) (get_or ids k 0 ∷ [])
        ∙ ap (λ (b : Bool). owns (take k ids) m || b) (or-false (eqb (get_or ids k 0 - 1) m))

    go : (m : ℕ) (b : Bool) → owns (take k ids) m ≡ b → (owns (take k ids) m || eqb (get_or ids k 0 - 1) m) ≡ true → marked next (256 * m + j) ≡ true
    go m true q p = at (256 * m + j) (or-true-left (marked now (256 * m + j)) (eqb (i * 256 + j) (256 * m + j)) (a.row m q))
    go m false q p =
        let z : i ≡ m = e ∙ eqb-true (get_or ids k 0 - 1) m (sym (ap (λ (b : Bool). b || eqb (get_or ids k 0 - 1) m) q) ∙ p) in
        at (256 * m + j) (or_true_right (marked now (256 * m + j)) (eqb (i * 256 + j) (256 * m + j)) (eq-eqb (i * 256 + j) (256 * m + j) (omega arith)))

-- ---- all lines

-- those below k are in it
pub record Rows (cs : List Constraint) (k : ℕ) (index : List ℕ) : Type 0 where
  pub size : length index ≡ 1024
  pub row : (j : ℕ) → j < k → (i : ℕ) → owns (groups_of (line_at cs j)) i ≡ true → marked index (256 * i + j) ≡ true

module _ (cs : List Constraint) (t : T (list_all (constraint_in_range limits.groups) cs)) where
  pub line-is : (j : ℕ) → j < length cs → (d : Constraint) → line_at cs j ≡ get_or cs j d
  line-is j h d = get_or-other cs j zero_constraint d h

  pub line-in : (j : ℕ) → j < length cs → (d : Constraint) → T (constraint_in_range limits.groups (get_or cs j d))
  line-in j h d = every-getD (constraint_in_range limits.groups) cs d j t h

  pub rows_next : (k : ℕ) (index next : List ℕ) → Rows cs k index → k < length cs → (d : Constraint) (n : ℕ)
      → n ≡ member_count (get_or cs k d).code (get_or cs k d).count → AddsLine k (take n (get_or cs k d).groups) index next → Rows cs (k + 1) next
  unfolding groups_of
  rows_next k index next r h d n e a = record {
    size = a.size ∙ r.size;
    row = λ j l i o. ⊎_elim (λ (q : j ≡ k). last j q i o) (λ q. a.old (256 * i + j) (r.row j q i o)) (eq-or-lt_of_le (omega arith));
  }
    where
      last : (j : ℕ) → j ≡ k → (i : ℕ) → owns (groups_of (line_at cs j)) i ≡ true → marked next (256 * i + j) ≡ true
      last j q i o =
          let x : owns (take n (get_or cs k d).groups) i ≡ true = rw e
          (unfold groups_of in subst (λ (y : Constraint). owns (groups_of y) i ≡ true) (ap (line_at cs) q ∙ line-is k h d) o) in
          subst (λ (y : ℕ). marked next (256 * i + y) ≡ true) (sym q) (a.row i x)

  pub rows_end : length cs ≤ limits.constraints → T (list_all constraint_sized cs) → (k : ℕ) (index : List ℕ) → Rows cs k index → length cs ≤ k → Index cs index
  rows_end few wide k index r l = record {
    few = few;
    code = λ j h. constraint-code limits.groups (line_at cs j) (every-getD (constraint_in_range limits.groups) cs zero_constraint j t h);
    wide = λ j h. leb→le limits.members (length (line_at cs j).groups) (every-getD constraint_sized cs zero_constraint j wide h);
    row = λ j h. r.row j (omega arith);
  }

pub member_few : (l : Constraint) → T (constraint_in_range limits.groups l) → member_count l.code l.count ≤ limits.members
member_few l r = member-bound l.code l.count (constraint-code limits.groups l r)

pub members_few : (cs : List Constraint) (j : ℕ) (d : Constraint) → T (list_all (constraint_in_range limits.groups) cs) → j < length cs
    → member_count (get_or cs j d).code (get_or cs j d).count ≤ limits.members
members_few cs j d t h = member_few (get_or cs j d) (every-getD (constraint_in_range limits.groups) cs d j t h)

-- the groups of a line in range
module _ (l : Constraint) (r : T (constraint_in_range limits.groups l)) (n : ℕ) (e : n ≡ member_count l.code l.count) where
  pub count-in : T (list_all (between 1 limits.groups) (take n l.groups))
  unfolding groups_of
  count-in = rw e (groups-in limits.groups l r)
