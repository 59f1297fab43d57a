-- The field named is the first that the reader refuses, of a line refused by 4 or 7. Assumes nothing.
use Prim.Native.Nat.{ℕ, zero, suc, ◌+◌, ◌-◌, ◌/◌, ◌%◌, ◌≤◌, ◌<◌, min}
use mathlib.Core.Path.{◌≡◌, refl, sym, ap, ◌∙◌}
use mathlib.Core.Bool.{Bool, true, false, cond, not, ◌&&◌}
use mathlib.Core.List.{List, ◌++◌, map}
use native.Mathlib.Omega.{arith}
use borrow.Author.Tests.{eqb-true, eqb-false, ne_eqb, leb-true, leb-false, le-leb, lt-leb}
use lib.Dec.{leb, eqb}
use lib.ListN.{length, take, replicate}
use lib.Seq.{take-append_seam}
use Rattle.std.specs.List.{list_all}
use Rattle.model.specs.Lists.{between, distinct, range, stop}
use Rattle.model.specs.Limits.{limits, groups_for}
use Rattle.model.specs.Sheet.{value_at, is_mark_column, good_field, form_refusal, head_refusal, mark_at, group_refusal, first_group, count_from, group_count, constraint_from, constraint_refusal, line_refusal}
use Rattle.model.specs.Clauses.{member_count, groups_of}
use Rattle.model.specs.Model.{code_in_range}
use Rattle.model.proofs.Lists.{values_length}
use Rattle.line_fault.specs.declared.Head.{Head}
use Rattle.line_fault.specs.Fault.{first_not, bad_field, number_at, head_range, group_range, field_range, first_judged, in_range, out_field}
use Rattle.line_fault.proofs.Places.{before-holds, there-fails}

-- field i is the first from field a on, of k fields, at which a test fails
pub record First (test : ℕ → Bool) (a k i : ℕ) : Type 0 where
  pub inside : i < k
  pub fails : test i ≡ false
  pub first : (j : ℕ) → a ≤ j → j < i → test j ≡ true

named : (p : ℕ → Bool) (a k : ℕ) → a ≤ k → list_all p (range a (k - a)) ≡ false → First p a k (first_not p a (k - a))
named p a k h e =
    let r = there-fails p a (k - a) e in
    record { inside = omega (arith, r.0); fails = r.1; first = λ j x y. before-holds p a (k - a) j x y }

-- ---- 4

four-fails : (a b c : Bool) → stop a 3 (stop (not b) 3 (stop (not c) 4 0)) ≡ 4 → c ≡ false
four-fails true b c e = absurd (omega arith)
four-fails false false c e = absurd (omega arith)
four-fails false true true e = absurd (omega arith)
four-fails false true false e = refl

-- 4 is a refusal of the form alone
head_not_4 : (a b c d f : Bool) → stop (not a) 5 (stop (not b) 6 (stop (not c) 7 (stop (not d) 7 (stop (not f) 7 0)))) ≡ 4 → ⊥
head_not_4 false b c d f e = omega arith
head_not_4 true false c d f e = omega arith
head_not_4 true true false d f e = omega arith
head_not_4 true true true false f e = omega arith
head_not_4 true true true true false e = omega arith
head_not_4 true true true true true e = omega arith

group-not_4 : (a b c d f g : Bool) → stop (not a) 5 (stop (not b) 6 (stop (not c) 7 (stop (not d) 7 (stop (not f) 7 (stop (not g) 8 0))))) ≡ 4 → ⊥
group-not_4 false b c d f g e = omega arith
group-not_4 true false c d f g e = omega arith
group-not_4 true true false d f g e = omega arith
group-not_4 true true true false f g e = omega arith
group-not_4 true true true true false g e = omega arith
group-not_4 true true true true true false e = omega arith
group-not_4 true true true true true true e = omega arith

constraint_not_4 : (a b c d f : Bool) → stop (not a) 5 (stop (not b) 6 (stop (not c) 6 (stop (not d) 7 (stop (not f) 9 0)))) ≡ 4 → ⊥
constraint_not_4 false b c d f e = omega arith
constraint_not_4 true false c d f e = omega arith
constraint_not_4 true true false d f e = omega arith
constraint_not_4 true true true false f e = omega arith
constraint_not_4 true true true true false e = omega arith
constraint_not_4 true true true true true e = omega arith

module _ (h : Head) (done : ℕ) (l : List ℕ) where
  rest-not-4 : (x y z : Bool) → cond x (head_refusal l) (cond y (group_refusal h.n done l) (cond z (constraint_refusal h.s l) 5)) ≡ 4 → ⊥
  unfolding head_refusal group_refusal constraint_refusal
  rest-not-4 true y z e =
      head_not_4 (eqb (value_at l 0) 1) (eqb (length l / 4) 4) (between 1 limits.entrants (value_at l 1))
      (between 1 (groups_for (value_at l 1)) (value_at l 2)) (leb (value_at l 3) limits.constraints) e
  rest-not-4 false true z e =
      group-not_4 (eqb (value_at l 0) 2) (eqb (length l / 4) (4 + h.n)) (leb (value_at l 2) (value_at l 3)) (leb (value_at l 3) h.n)
      (list_all (λ e. leb (mark_at l e) 2) (range 0 h.n)) (eqb (value_at l 1) done) e
  rest-not-4 false false true e =
      constraint_not_4 (eqb (value_at l 0) 3) (code_in_range (value_at l 1) (count_from l)) (eqb (length l / 4) (first_group l + group_count l))
      (list_all (between 1 h.s) (groups_of (constraint_from l))) (distinct (groups_of (constraint_from l))) e
  rest-not-4 false false false e = omega arith

  of-form : line_refusal h.n h.s h.c done l ≡ 4 → form_refusal l ≡ 4
  unfolding line_refusal
  of-form e = go (eqb (form_refusal l) 0) e
    where
      rest : ℕ
      rest =
          cond (eqb done 0) (head_refusal l)
          (cond (leb done h.s) (group_refusal h.n done l) (cond (leb done (h.s + h.c)) (constraint_refusal h.s l) 5))

      go : (b : Bool) → stop (not b) (form_refusal l) rest ≡ 4 → form_refusal l ≡ 4
      go true e = absurd (rest-not-4 (eqb done 0) (leb done h.s) (leb done (h.s + h.c)) e)
      go false e = e

  pub first-unread : line_refusal h.n h.s h.c done l ≡ 4 → First (good_field l) 0 (length l / 4) (bad_field l)
  unfolding form_refusal bad_field
  first-unread e =
      let f = four-fails (eqb (length l) 0) (eqb (length l % 4) 0) (list_all (good_field l) (range 0 (length l / 4))) (of-form e) in
      let r = there-fails (good_field l) 0 (length l / 4) f in
      record { inside = omega (arith, r.0); fails = r.1; first = λ j x y. before-holds (good_field l) 0 (length l / 4) j x y }

-- ---- 7 of the head

-- 7 is not one of the form
chain-not_7 : (a b c : Bool) → stop a 3 (stop (not b) 3 (stop (not c) 4 0)) ≡ 7 → ⊥
chain-not_7 true b c e = omega arith
chain-not_7 false false c e = omega arith
chain-not_7 false true true e = omega arith
chain-not_7 false true false e = omega arith

form-not_7 : (l : List ℕ) → form_refusal l ≡ 7 → ⊥
unfolding form_refusal
form-not_7 l e = chain-not_7 (eqb (length l) 0) (eqb (length l % 4) 0) (list_all (good_field l) (range 0 (length l / 4))) e

form-passed : (l : List ℕ) (rest : ℕ) → stop (not (eqb (form_refusal l) 0)) (form_refusal l) rest ≡ 7 → rest ≡ 7
form-passed l rest e = go (eqb (form_refusal l) 0) e
  where
    go : (b : Bool) → stop (not b) (form_refusal l) rest ≡ 7 → rest ≡ 7
    go true e = e
    go false e = absurd (form-not_7 l e)

head_chain : (a b c d f : Bool) → stop (not a) 5 (stop (not b) 6 (stop (not c) 7 (stop (not d) 7 (stop (not f) 7 0)))) ≡ 7
    → (b ≡ true) × ((c && (d && (f && true))) ≡ false)
head_chain false b c d f e = absurd (omega arith)
head_chain true false c d f e = absurd (omega arith)
head_chain true true false d f e = (refl, refl)
head_chain true true true false f e = (refl, refl)
head_chain true true true true false e = (refl, refl)
head_chain true true true true true e = absurd (omega arith)

from_zero : (k v : ℕ) → between 0 k v ≡ leb v k
from_zero k v = rw (le-leb 0 v (omega arith))

module _ (h : Head) (l : List ℕ) where
  head-tests : list_all (in_range h 0 l) (range 1 3)
      ≡ (between 1 limits.entrants (value_at l 1) && (between 1 (groups_for (value_at l 1)) (value_at l 2) && (leb (value_at l 3) limits.constraints && true)))
  unfolding in_range field_range head_range number_at is_mark_column value_at
  head-tests = rw (from_zero limits.constraints (value_at l 3))

  head-out : head_refusal l ≡ 7 → First (in_range h 0 l) (first_judged h 0 l) (length l / 4) (out_field h 0 l)
  unfolding head_refusal first_judged out_field
  head-out e =
      let r = head_chain (eqb (value_at l 0) 1) (eqb (length l / 4) 4) (between 1 limits.entrants (value_at l 1)) (between 1 (groups_for (value_at l 1)) (value_at l 2)) (leb (value_at l 3) limits.constraints) e in
      let four : length l / 4 ≡ 4 = eqb-true (length l / 4) 4 r.0 in
      rw four (named (in_range h 0 l) 1 4 (omega arith) (head-tests ∙ r.1))

-- ---- 7 of a group line

group-chain : (a b c d f g : Bool) → stop (not a) 5 (stop (not b) 6 (stop (not c) 7 (stop (not d) 7 (stop (not f) 7 (stop (not g) 8 0))))) ≡ 7
    → (a ≡ true) × ((b ≡ true) × ((c && (d && f)) ≡ false))
group-chain false b c d f g e = absurd (omega arith)
group-chain true false c d f g e = absurd (omega arith)
group-chain true true false d f g e = (refl, (refl, refl))
group-chain true true true false f g e = (refl, (refl, refl))
group-chain true true true true false g e = (refl, (refl, refl))
group-chain true true true true true false e = absurd (omega arith)
group-chain true true true true true true e = absurd (omega arith)

kind_first : (v k : ℕ) (rest : ℕ) → stop (not (eqb v k)) 5 rest ≡ 7 → v ≡ k
kind_first v k rest e = go (eqb v k) refl e
  where
    go : (b : Bool) → eqb v k ≡ b → stop (not b) 5 rest ≡ 7 → v ≡ k
    go true q e = eqb-true v k q
    go false q e = absurd (omega arith)

kind_of_group : (n done : ℕ) (l : List ℕ) → group_refusal n done l ≡ 7 → value_at l 0 ≡ 2
unfolding group_refusal
kind_of_group n done l e = kind_first (value_at l 0) 2 _ e

kind_of_constraint : (s : ℕ) (l : List ℕ) → constraint_refusal s l ≡ 7 → value_at l 0 ≡ 3
unfolding constraint_refusal
kind_of_constraint s l e = kind_first (value_at l 0) 3 _ e

and-false : (x : Bool) → (x && false) ≡ false
and-false true = refl
and-false false = refl

-- low at most high and n, where it is at most high and high is at most n
low-out : (low high n : ℕ) (marks : Bool) → (leb low high && (leb high n && marks)) ≡ false → (leb low (min high n) && (leb high n && marks)) ≡ false
low-out low high n marks = go (leb high n) refl
  where
    go : (b : Bool) → leb high n ≡ b → (leb low high && (b && marks)) ≡ false → (leb low (min high n) && (b && marks)) ≡ false
    go true q e = let m : min high n ≡ high = omega (arith, leb-true high n q) in rw m e
    go false q e = and-false (leb low (min high n))

module _ (h : Head) (done : ℕ) (l : List ℕ) (some : done ≡ 0 → ⊥) (few : done ≤ h.s) (kind : value_at l 0 ≡ 2) where
  ranges : (i : ℕ) → field_range h done l i ≡ group_range h.n l i
  unfolding field_range
  ranges i = rw (ne_eqb done 0 some, le-leb done h.s few)

  low-test : in_range h done l 2 ≡ leb (value_at l 2) (min (value_at l 3) h.n)
  unfolding in_range number_at is_mark_column value_at group_range
  low-test = rw (ranges 2) (from_zero (min (value_at l 3) h.n) (value_at l 2))

  high-test : in_range h done l 3 ≡ leb (value_at l 3) h.n
  unfolding in_range number_at is_mark_column value_at group_range
  high-test = rw (ranges 3) (from_zero h.n (value_at l 3))

  mark-test : (e : ℕ) → in_range h done l (4 + e) ≡ leb (mark_at l e) 2
  unfolding in_range number_at is_mark_column group_range mark_at
  mark-test e =
      let a : eqb (4 + e) 2 ≡ false = ne_eqb (4 + e) 2 (λ q. omega arith) in
      let b : eqb (4 + e) 3 ≡ false = ne_eqb (4 + e) 3 (λ q. omega arith) in
      rw (ranges (4 + e), a, b, le-leb 4 (4 + e) (omega arith), kind) (from_zero 2 (mark_at l e))

  mark-tests : (a k : ℕ) → list_all (in_range h done l) (range (4 + a) k) ≡ list_all (λ e. leb (mark_at l e) 2) (range a k)
  mark-tests a zero = refl
  mark-tests a (suc k) =
      let next : suc (4 + a) ≡ 4 + suc a = omega arith in
      rw (mark-test a, next, mark-tests (suc a) k)

  group-out : group_refusal h.n done l ≡ 7 → First (in_range h done l) (first_judged h done l) (length l / 4) (out_field h done l)
  unfolding group_refusal first_judged out_field
  group-out e =
      let marks = list_all (λ e. leb (mark_at l e) 2) (range 0 h.n) in
      let r = group-chain (eqb (value_at l 0) 2) (eqb (length l / 4) (4 + h.n)) (leb (value_at l 2) (value_at l 3)) (leb (value_at l 3) h.n) marks (eqb (value_at l 1) done) e in
      let fields : length l / 4 ≡ 4 + h.n = eqb-true (length l / 4) (4 + h.n) r.1.0 in
      let two : 4 + h.n - 2 ≡ suc (suc h.n) = omega arith in
      let tests : list_all (in_range h done l) (range 2 (4 + h.n - 2)) ≡ false =
      rw (two, low-test, high-test, mark-tests 0 h.n) (low-out (value_at l 2) (value_at l 3) h.n marks r.1.1) in
      rw (ne_eqb done 0 some, le-leb done h.s few, fields) (named (in_range h done l) 2 (4 + h.n) (omega arith) tests)

-- ---- 7 of a constraint line

constraint_chain : (a b c d f : Bool) → stop (not a) 5 (stop (not b) 6 (stop (not c) 6 (stop (not d) 7 (stop (not f) 9 0)))) ≡ 7
    → (a ≡ true) × ((c ≡ true) × (d ≡ false))
constraint_chain false b c d f e = absurd (omega arith)
constraint_chain true false c d f e = absurd (omega arith)
constraint_chain true true false d f e = absurd (omega arith)
constraint_chain true true true false f e = (refl, (refl, refl))
constraint_chain true true true true false e = absurd (omega arith)
constraint_chain true true true true true e = absurd (omega arith)

groups_are : (l : List ℕ) → groups_of (constraint_from l) ≡ map (λ i. value_at l (first_group l + i)) (range 0 (group_count l))
unfolding groups_of group_count constraint_from
groups_are l =
    let f : ℕ → ℕ = λ i. value_at l (first_group l + i) in
    let k = member_count (value_at l 1) (count_from l) in
    let zeros : List ℕ = replicate (limits.members - k) 0 in
    ap (λ (n : ℕ). take n (map f (range 0 k) ++ zeros)) (sym (values_length f 0 k)) ∙ take-append_seam (map f (range 0 k)) zeros

module _ (h : Head) (done : ℕ) (l : List ℕ) (some : done ≡ 0 → ⊥) (many : h.s < done) (kind : value_at l 0 ≡ 3) where
  group-test : (i : ℕ) → in_range h done l i ≡ between 1 h.s (value_at l i)
  unfolding in_range field_range number_at is_mark_column value_at
  group-test i = rw (ne_eqb done 0 some, lt-leb done h.s many, kind, and-false (leb 4 i))

  group-tests : (a j k : ℕ) → list_all (in_range h done l) (range (a + j) k) ≡ list_all (between 1 h.s) (map (λ i. value_at l (a + i)) (range j k))
  group-tests a j zero = refl
  group-tests a j (suc k) =
      let next : suc (a + j) ≡ a + suc j = omega arith in
      rw (group-test (a + j), next, group-tests a (suc j) k)

  constraint-out : constraint_refusal h.s l ≡ 7 → First (in_range h done l) (first_judged h done l) (length l / 4) (out_field h done l)
  unfolding constraint_refusal first_judged out_field
  constraint-out e =
      let r = constraint_chain (eqb (value_at l 0) 3) (code_in_range (value_at l 1) (count_from l)) (eqb (length l / 4) (first_group l + group_count l)) (list_all (between 1 h.s) (groups_of (constraint_from l))) (distinct (groups_of (constraint_from l))) e in
      let fields : length l / 4 ≡ first_group l + group_count l = eqb-true (length l / 4) (first_group l + group_count l) r.1.0 in
      let rest : first_group l + group_count l - first_group l ≡ group_count l = omega arith in
      let start : first_group l + 0 ≡ first_group l = omega arith in
      let tests : list_all (in_range h done l) (range (first_group l) (first_group l + group_count l - first_group l)) ≡ false =
      rw (rest) (ap (λ (a : ℕ). list_all (in_range h done l) (range a (group_count l))) (sym start) ∙ group-tests (first_group l) 0 (group_count l) ∙ ap (list_all (between 1 h.s)) (sym (groups_are l)) ∙ r.1.1) in
      rw (ne_eqb done 0 some, lt-leb done h.s many, fields) (named (in_range h done l) (first_group l) (first_group l + group_count l) (omega arith) tests)

-- ---- 7 of the line after `done` lines, of which the head said h

pub first-outside : (h : Head) (done : ℕ) (l : List ℕ) → line_refusal h.n h.s h.c done l ≡ 7
    → First (in_range h done l) (first_judged h done l) (length l / 4) (out_field h done l)
unfolding line_refusal
first-outside h done l e = head (eqb done 0) refl (form-passed l _ e)
  where
    constraint : (done ≡ 0 → ⊥) → h.s < done → (b : Bool) → cond b (constraint_refusal h.s l) 5 ≡ 7
        → First (in_range h done l) (first_judged h done l) (length l / 4) (out_field h done l)
    constraint z m true e = constraint-out h done l z m (kind_of_constraint h.s l e) e
    constraint z m false e = absurd (omega arith)

    group : (done ≡ 0 → ⊥) → (b : Bool) → leb done h.s ≡ b
        → cond b (group_refusal h.n done l) (cond (leb done (h.s + h.c)) (constraint_refusal h.s l) 5) ≡ 7
        → First (in_range h done l) (first_judged h done l) (length l / 4) (out_field h done l)
    group z true q e = group-out h done l z (leb-true done h.s q) (kind_of_group h.n done l e) e
    group z false q e = constraint z (leb-false done h.s q) (leb done (h.s + h.c)) e

    head : (b : Bool) → eqb done 0 ≡ b
        → cond b (head_refusal l) (cond (leb done h.s) (group_refusal h.n done l) (cond (leb done (h.s + h.c)) (constraint_refusal h.s l) 5)) ≡ 7
        → First (in_range h done l) (first_judged h done l) (length l / 4) (out_field h done l)
    head true q e = let z = eqb-true done 0 q in rw z (head-out h l e)
    head false q e = group (eqb-false done 0 q) (leb done h.s) refl e
