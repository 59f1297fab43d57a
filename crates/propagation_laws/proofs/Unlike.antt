-- Code 7 in settling: the entrants who are not settled alike are fewer in a narrower table, so that a test of there being one is passed by wider tables
-- too. Assumes nothing.
use mathlib.Core.Path.{◌≡◌, refl, sym, subst}
use Prim.Native.Nat.{ℕ, ◌≤◌}
use native.Mathlib.Nat.{lt_of_not-le}
use native.Mathlib.Omega.{arith}
use mathlib.Core.List.{List, [], ◌∷◌}
use mathlib.Core.Bool.{Bool, true, false, cond, not, ◌&&◌}
use borrow.Author.Tests.{eqb-true, eq-eqb}
use lib.Dec.{T, eqb}
use lib.Bits.{bit_and, bit_or}
use lib.ListN.{get_or}
use Rattle.model.specs.declared.Group.{Group}
use Rattle.model.specs.declared.Constraint.{Constraint}
use Rattle.std.specs.List.{list_all}
use Rattle.model.specs.Words.{full, size}
use Rattle.model.specs.Clauses.{is_difference}
use Rattle.model.specs.Model.{member_at}
use Rattle.model.specs.Difference.{unlike, unlike_in, lone, may_differ}
use Rattle.model.specs.Propagate.{scope}
use Rattle.model.proofs.Lists.{and_left, and_right, and_both}
use Rattle.model.proofs.Words.{Sub, sub_refl, sub_antisym, bit-zero, bit-less, bit-and, bit-or, size-zero, size_mono, size-eq}
use Rattle.propagation_laws.proofs.GroupRule.{Narrow, table_frame, group-narrow}

no_size : (w : ℕ) → size w ≡ 0 → w ≡ 0
no_size w e = sym (size-eq {a = 0} {b = w} (record { at = λ i. omega (arith, bit-zero i) }) (omega (arith, size-zero)))

lone_mono : (u x : ℕ) → Sub u x → T (not (eqb u 0)) → Sub (lone x) (lone u)
unfolding lone
lone_mono u x s t = go (eqb (size x) 1) refl
  where
    go : (b : Bool) → eqb (size x) 1 ≡ b → Sub (cond b x 0) (cond (eqb (size u) 1) u 0)
    go false e = record { at = λ i. omega (arith, bit-zero i) }
    go true e =
        let one : size x ≡ 1 = eqb-true (size x) 1 e in
        let le : size u ≤ size x = size_mono s in
        let some : size u ≡ 0 → ⊥ = λ z. subst (λ (w : ℕ). T (not (eqb w 0))) (no_size u z) t in
        let ge : 1 ≤ size u = lt_of_not-le (λ (l : size u ≤ 0). some (omega arith)) in
        let is : u ≡ x = size-eq s (omega arith) in
        let same : size u ≡ 1 = omega arith in
        rw (eq-eqb (size u) 1 same, is) (sub_refl x)

module _ (u x : List Group) (w : T (table_frame.within u x)) (c : Constraint) where
  pub unlike-mono : Sub (unlike_in u c) (unlike_in x c)
  unfolding unlike_in unlike member_at
  unlike-mono =
      let a : Narrow (member_at u c 0) (member_at x c 0) = group-narrow u x w (get_or c.groups 0 0) in
      let b : Narrow (member_at u c 1) (member_at x c 1) = group-narrow u x w (get_or c.groups 1 0) in
      let p = member_at u c 0 in
      let q = member_at u c 1 in
      let r = member_at x c 0 in
      let s = member_at x c 1 in
      record {
        at = λ e. omega (
          arith,
          bit-less e (bit_or p.possible q.possible) (bit_and p.fixed q.fixed),
          bit-less e (bit_or r.possible s.possible) (bit_and r.fixed s.fixed),
          bit-or e p.possible q.possible,
          bit-or e r.possible s.possible,
          bit-and e p.fixed q.fixed,
          bit-and e r.fixed s.fixed,
          a.pos.at e,
          a.fix.at e,
          b.pos.at e,
          b.fix.at e,
        );
      }

  pub differ-up : T (may_differ u c) → T (may_differ x c)
  unfolding may_differ
  differ-up t = go (is_difference c) (eqb (unlike_in x c) 0) refl t
    where
      go : (d b : Bool) → eqb (unlike_in x c) 0 ≡ b → T (not (d && eqb (unlike_in u c) 0)) → T (not (d && b))
      go false b e t = tt
      go true false e t = tt
      go true true e t =
          let none : unlike_in u c ≡ 0 =
          sub_antisym (subst (λ (w : ℕ). Sub (unlike_in u c) w) (eqb-true (unlike_in x c) 0 e) unlike-mono) (record { at = λ i. omega (arith, bit-zero i) }) in
          rw none at t

  pub scope-mono : (n : ℕ) → T (may_differ u c) → Sub (scope n x c) (scope n u c)
  unfolding scope may_differ
  scope-mono n t = go (is_difference c) t
    where
      go : (d : Bool) → T (not (d && eqb (unlike_in u c) 0)) → Sub (cond d (lone (unlike_in x c)) (full n)) (cond d (lone (unlike_in u c)) (full n))
      go false t = sub_refl (full n)
      go true t = lone_mono (unlike_in u c) (unlike_in x c) unlike-mono t

pub differs-up : (cs : List Constraint) (x y : List Group) → T (table_frame.within x y) → T (list_all (may_differ x) cs) → T (list_all (may_differ y) cs)
differs-up [] x y w t = tt
differs-up (c ∷ cs) x y w t =
    and_both (may_differ y c) (list_all (may_differ y) cs) (differ-up x y w c (and_left (may_differ x c) (list_all (may_differ x) cs) t))
    (differs-up cs x y w (and_right (may_differ x c) (list_all (may_differ x) cs) t))
