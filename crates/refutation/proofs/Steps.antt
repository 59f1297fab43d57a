-- What each step keeps, for an assignment. Assumes nothing.
use Rattle.std.proofs.Common.{◌≡◌, ℕ, zero, suc, ◌+◌, ◌-◌, ◌<◌, ◌≤◌, Bool, true, false, not, ◌||◌, T, eqb, List, [], ◌∷◌, length, get_or, set, sym, refl, ap, ◌∙◌, subst, ap₂, arith, length-set, get_or-set_other, get_or-set_same, eqb-true}
use native.Mathlib.Decide.{ℕ_discrete}
use Rattle.model.proofs.Lists.{or-none}
use Rattle.refutation.specs.declared.Found.{Found}
use Rattle.refutation.specs.declared.Found.TheVariants.{Conflict, Forces}
use Rattle.refutation.specs.declared.State.{State}
use Rattle.refutation.specs.Sound.{word_true, flipped, some_true, stored_true, after_clause, Reached, Stored, begun_true, Falsified, Says, Kept, Holds, Keeps}
use Rattle.refutation.proofs.Clauses.{some_same, some_more, Agree, reached-here, reached-more, reached-agree, stored-agree}
use Rattle.refutation.proofs.Marks.{true-false, by_refutation, flip-false, mark-false, mark-fresh}

-- ---- the clause begun

pub begun-none : (a : List Bool) (top at : ℕ) (store : List ℕ) → at ≤ top + 2 → begun_true a top at store ≡ false
unfolding begun_true
begun-none a top at store h = let n : at - (top + 2) ≡ 0 = omega arith in ap (some_true a store (top + 2)) n

pub begun_more : (a : List Bool) (top at : ℕ) (store : List ℕ) (w : ℕ) → top + 2 ≤ at → at < length store → begun_true a top (at + 1) (set store at w) ≡ (begun_true a top at store || word_true a w)
unfolding begun_true
begun_more a top at store w h l =
    let n : at + 1 - (top + 2) ≡ suc (at - (top + 2)) = omega arith in
    let p : top + 2 + (at - (top + 2)) ≡ at = omega arith in
    ap (some_true a (set store at w) (top + 2)) n
    ∙ some_more a (set store at w) (top + 2) (at - (top + 2))
    ∙ ap₂ ◌||◌
    (some_same a store (set store at w) (top + 2) (top + 2) (at - (top + 2)) (λ k u. get_or-set_other store at (top + 2 + k) w 0 (λ e. omega arith)))
    (ap (word_true a) (ap (λ (q : ℕ). get_or (set store at w) q 0) p ∙ get_or-set_same store at w 0 l))

-- ---- hints

-- what a stored clause was found to say
abbrev pub Told : List ℕ → ℕ → List ℕ → ℕ → Found → Type 0
Told store c marks stamp f = (a : List Bool) → T (stored_true a store c) → Falsified a marks stamp → Says a f

module _ {a : List Bool} {top at stamp : ℕ} {proved refuted : Bool} {store index marks : List ℕ} (h : Kept a top at stamp proved refuted store index marks) (i c : ℕ) (e : c ≡ get_or index i 0) (n : c ≡ 0 → ⊥) (f : Found) (told : Told store c marks stamp f) where
  stored-true : T (stored_true a store c)
  stored-true = subst (λ (x : ℕ). T (stored_true a store x)) (sym e) (h.stored i (pos (get_or index i 0) (λ z. n (e ∙ z)))).true
    where
      pos : (x : ℕ) → (x ≡ 0 → ⊥) → 0 < x
      pos x g = omega arith

  says : begun_true a top at store ≡ false → Says a f
  says z = told a stored-true (h.marked z)

  pub conflict-kept : f ≡ Conflict → Kept a top at stamp true refuted store index marks
  conflict-kept q = record {
    stored = h.stored;
    last = h.last;
    place = h.place;
    fresh = h.fresh;
    marked = h.marked;
    implied = λ z. by_refutation (begun_true a top at store) (λ g. subst (Says a) q (says g));
    unrefuted = h.unrefuted;
  }

  pub forced-kept : (w k : ℕ) → f ≡ Forces w → k ≡ flipped w → k < length marks → Kept a top at stamp proved refuted store index (set marks k stamp)
  forced-kept w k q p l = record {
    stored = h.stored;
    last = h.last;
    place = h.place;
    fresh = mark-fresh marks stamp k h.fresh l;
    marked = λ g. mark-false (h.marked g) k (ap (word_true a) p ∙ flip-false a w (subst (Says a) q (says g)));
    implied = h.implied;
    unrefuted = h.unrefuted;
  }

-- ---- a word more, a clause forgotten

or_left : (x y : Bool) → T x → T (x || y)
or_left true y t = tt
or_left false y t = absurd t

-- a store written at one place agrees below it
pub agree-set : (store : List ℕ) (p v b e : ℕ) → e ≤ p → Agree store (set store p v) b e
agree-set store p v b e h = record { same = λ q l u. get_or-set_other store p q v 0 (λ z. omega arith) }

zeroed : (xs : List ℕ) (n : ℕ) → get_or (set xs n 0) n 0 ≡ 0
zeroed [] n = refl
zeroed (x ∷ xs) zero = refl
zeroed (x ∷ xs) (suc n) = zeroed xs n

module _ {a : List Bool} {top at stamp : ℕ} {proved refuted : Bool} {store index marks : List ℕ} (h : Kept a top at stamp proved refuted store index marks) where
  pub put-kept : (w k : ℕ) → k ≡ w → at < length store → k < length marks → Kept a top (at + 1) stamp proved refuted (set store at w) index (set marks k stamp)
  put-kept w k e la lm = record {
    stored = λ i p. stored-agree below (h.stored i p) (omega arith);
    last = reached-agree below (omega arith) h.last;
    place = omega (arith, h.place);
    fresh = mark-fresh marks stamp k h.fresh lm;
    marked = λ f.
        let g = or-none (begun_true a top at store) (word_true a w) (sym more ∙ f) in
        mark-false (h.marked g.0) k (ap (word_true a) e ∙ g.1);
    implied = λ p. subst T (sym more) (or_left (begun_true a top at store) (word_true a w) (h.implied p));
    unrefuted = h.unrefuted;
  }
    where
      below : Agree store (set store at w) 1 top
      below = agree-set store at w 1 top (omega (arith, h.place))

      more : begun_true a top (at + 1) (set store at w) ≡ (begun_true a top at store || word_true a w)
      more = begun_more a top at store w h.place la

  pub forget-kept : (i : ℕ) → Kept a top at stamp proved refuted store (set index i 0) marks
  forget-kept i = record {
    stored = λ j p. go j p (ℕ_discrete j i);
    last = h.last;
    place = h.place;
    fresh = h.fresh;
    marked = h.marked;
    implied = h.implied;
    unrefuted = h.unrefuted;
  }
    where
      go : (j : ℕ) → 0 < get_or (set index i 0) j 0 → Dec (j ≡ i) → Stored a store 1 top j (get_or (set index i 0) j 0)
      go j p (yes e) = absurd (omega (arith, p, ap (λ (n : ℕ). get_or (set index i 0) n 0) e, zeroed index i))
      go j p (no e) = let o = get_or-set_other index i j 0 0 e in subst (Stored a store 1 top j) (sym o) (h.stored j (omega (arith, p, o)))

-- ---- a clause stored

-- a number and a length written before the words of a clause at p
abbrev pub headed : List ℕ → ℕ → ℕ → ℕ → List ℕ
headed store p id n = set (set store p id) (p + 1) n

module _ {a : List Bool} {top at stamp : ℕ} {proved refuted : Bool} {store index marks : List ℕ} (h : Kept a top at stamp proved refuted store index marks) (shown : proved ≡ true) (i id : ℕ) (its : i ≡ id) (li : i < length index) (la : at ≤ length store) (n : ℕ) (size : n ≡ at - 2 - top) where
  below : Agree store (headed store top id n) 1 top
  below = record { same = λ q l u. get_or-set_other (set store top id) (top + 1) q n 0 (λ z. omega arith) ∙ get_or-set_other store top q id 0 (λ z. omega arith) }

  its-number : get_or (headed store top id n) top 0 ≡ id
  its-number = get_or-set_other (set store top id) (top + 1) top n 0 (λ z. omega arith) ∙ get_or-set_same store top id 0 (omega (arith, h.place))

  its-length : get_or (headed store top id n) (top + 1) 0 ≡ n
  its-length = get_or-set_same (set store top id) (top + 1) n 0 (omega (arith, h.place, length-set store top id))

  its-words : stored_true a (headed store top id n) top ≡ begun_true a top at store
  unfolding stored_true begun_true
  its-words =
      let m : n ≡ at - (top + 2) = omega arith in
      ap (some_true a (headed store top id n) (top + 2)) (its-length ∙ m)
      ∙ some_same a store (headed store top id n) (top + 2) (top + 2) (at - (top + 2))
      (λ k l. get_or-set_other (set store top id) (top + 1) (top + 2 + k) n 0 (λ z. omega arith) ∙ get_or-set_other store top (top + 2 + k) id 0 (λ z. omega arith))

  its-end : after_clause (headed store top id n) top ≡ at
  unfolding after_clause
  its-end = omega (arith, its-length, h.place)

  its-place : Reached (headed store top id n) 1 top
  its-place = reached-agree below (omega arith) h.last

  none_left : eqb n 0 ≡ true → ⊥
  none_left e = subst T (begun-none a top at store (omega (arith, eqb-true n 0 e, size, h.place))) (h.implied shown)

  pub commit-kept : Kept a at (at + 2) (stamp + 1) false (eqb n 0) (headed store top id n) (set index i top) marks
  commit-kept = record {
    stored = λ j p. go j p (ℕ_discrete j i);
    last = subst (Reached (headed store top id n) 1) its-end (reached-more its-place);
    place = omega arith;
    fresh = λ w. omega (arith, h.fresh w);
    marked = λ f. record { off = λ w l e. absurd (omega (arith, h.fresh w, e)) };
    implied = λ e. absurd (true-false (sym e));
    unrefuted = none_left;
  }
    where
      go : (j : ℕ) → 0 < get_or (set index i top) j 0 → Dec (j ≡ i) → Stored a (headed store top id n) 1 at j (get_or (set index i top) j 0)
      go j p (yes e) =
          subst (Stored a (headed store top id n) 1 at j) (sym (ap (λ (x : ℕ). get_or (set index i top) x 0) e ∙ get_or-set_same index i top 0 li))
          (record { reached = its-place; inside = omega (arith, its-end); named = its-number ∙ sym (e ∙ its); true = subst T (sym its-words) (h.implied shown) })
      go j p (no e) =
          let o = get_or-set_other index i j top 0 e in
          subst (Stored a (headed store top id n) 1 at j) (sym o) (stored-agree below (h.stored j (omega (arith, p, o))) (omega (arith, h.place)))

-- ---- steps one after the other

module _ {s s₁ : State} {st ix mk st₁ ix₁ mk₁ : List ℕ} where
  pub keep-to : {s₂ : State} → Keeps s st ix mk s₁ st₁ ix₁ mk₁ → s₂ ≡ s₁ → Keeps s st ix mk s₂ st₁ ix₁ mk₁
  keep-to k e = subst (λ (x : State). Keeps s st ix mk x st₁ ix₁ mk₁) (sym e) k

  pub keep-then : {s₂ : State} {st₂ ix₂ mk₂ : List ℕ} → Keeps s st ix mk s₁ st₁ ix₁ mk₁ → Keeps s₁ st₁ ix₁ mk₁ s₂ st₂ ix₂ mk₂ → Keeps s st ix mk s₂ st₂ ix₂ mk₂
  keep-then k l = record { keeps = λ a h. l.keeps a (k.keeps a h) }

pub not-false : (b : Bool) → not b ≡ false → b ≡ true
not-false true e = refl
not-false false e = absurd (true-false e)

module _ {s : State} {st ix mk : List ℕ} where
  pub keep_all : Keeps s st ix mk s st ix mk
  keep_all = record { keeps = λ a h. h }

  pub keep_same : {s₁ : State} → s₁ ≡ s → Keeps s st ix mk s₁ st ix mk
  keep_same e = keep-to keep_all e

  pub keep-each : {s₁ : State} → ((a : List Bool) (store index marks : List ℕ) → Holds a s store index marks → Holds a s₁ store index marks) → Keeps s st ix mk s₁ st ix mk
  keep-each f = record { keeps = λ a h. f a st ix mk h }

-- the same in whatever slices
pub hold_same : {s s₁ : State} → s₁ ≡ s → (a : List Bool) (store index marks : List ℕ) → Holds a s store index marks → Holds a s₁ store index marks
hold_same e a store index marks h = subst (λ (x : State). Holds a x store index marks) (sym e) h

-- ---- the start

pub start-kept : (index marks : List ℕ) → ((w : ℕ) → get_or index w 0 ≡ 0) → ((w : ℕ) → get_or marks w 0 ≡ 0) → (a : List Bool) (store : List ℕ) → Kept a 1 3 1 false false store index marks
start-kept index marks e f a store = record {
  stored = λ i p. absurd (omega (arith, p, e i));
  last = reached-here;
  place = omega arith;
  fresh = λ w. omega (arith, f w);
  marked = λ z. record { off = λ w l q. absurd (omega (arith, q, f w)) };
  implied = λ z. absurd (true-false (sym z));
  unrefuted = λ z. true-false (sym z);
}
