-- Laws of compaction: clauses that move down stay stored. Assumes nothing.
use Prim.Native.Nat.{ℕ, ◌+◌, ◌≤◌, ◌<◌}
use mathlib.Core.Path.{◌≡◌, refl, sym, ap, ◌∙◌, subst}
use mathlib.Core.Logic.{◌⊎◌, inl, inr, ⊎_elim}
use mathlib.Core.Bool.{Bool}
use mathlib.Core.List.{List}
use native.Mathlib.Omega.{arith}
use native.Mathlib.Decide.{ℕ_discrete}
use lib.Dec.{T}
use lib.ListN.{length, get_or, set}
use lib.Seq.{get_or-set_other, get_or-set_same}
use Rattle.refutation.specs.Sound.{some_true, stored_true, after_clause, Reached, Stored, Kept}
use Rattle.compaction.specs.Walk.{Walk, MovedDown}
use Rattle.refutation.proofs.Clauses.{some_same, after-past, reached-here, reached-past, reached-more, reached-next, Agree, reached-agree, stored-agree}
use Rattle.refutation.proofs.Marks.{past_end}
use Rattle.refutation.proofs.Steps.{begun-none}

-- ---- words that move down

pub moved_none : (from to : ℕ) (store : List ℕ) → MovedDown from to 0 store store
moved_none from to store = record { moved = λ k l. absurd (omega arith); below = λ p l. refl; above = λ p l. refl }

pub moved_all : {from to k : ℕ} {before after : List ℕ} → MovedDown from to k before after → (n : ℕ) → k ≡ n → MovedDown from to n before after
moved_all {from} {to} {k} {before} {after} h n e = subst (λ (x : ℕ). MovedDown from to x before after) e h

module _ {from to k : ℕ} {before now : List ℕ} (h : MovedDown from to k before now) (down : to ≤ from) (room : to + k < length now) where
  word : ℕ
  word = get_or now (from + k) 0

  pub moved-next : MovedDown from to (k + 1) before (set now (to + k) (get_or now (from + k) 0))
  unfolding word
  moved-next = record {
    moved = λ j l. go j l (ℕ_discrete j k);
    below = λ p l. get_or-set_other now (to + k) p word 0 (λ e. omega arith) ∙ h.below p l;
    above = λ p l. get_or-set_other now (to + k) p word 0 (λ e. omega arith) ∙ h.above p (omega arith);
  }
    where
      go : (j : ℕ) → j < k + 1 → Dec (j ≡ k) → get_or (set now (to + k) (get_or now (from + k) 0)) (to + j) 0 ≡ get_or before (from + j) 0
      go j l (yes e) =
          ap (λ (x : ℕ). get_or (set now (to + k) (get_or now (from + k) 0)) (to + x) 0) e
          ∙ get_or-set_same now (to + k) (get_or now (from + k) 0) 0 room
          ∙ h.above (from + k) (omega arith)
          ∙ ap (λ (x : ℕ). get_or before (from + x) 0) (sym e)
      go j l (no e) = get_or-set_other now (to + k) (to + j) (get_or now (from + k) 0) 0 (λ z. omega arith) ∙ h.moved j (omega arith)

-- ---- one clause

-- no clause of that number stands at `from`
module _ (index : List ℕ) (i j from : ℕ) (e : i ≡ j) where
  pub dead-past : length index ≤ i → 1 ≤ from → get_or index j 0 ≡ from → ⊥
  dead-past l one f = omega (arith, ap (λ (x : ℕ). get_or index x 0) e, past_end index i l, f)

  pub dead-other : (k : ℕ) → k ≡ get_or index i 0 → (k ≡ from → ⊥) → get_or index j 0 ≡ from → ⊥
  dead-other k q n f = n (q ∙ ap (λ (x : ℕ). get_or index x 0) e ∙ f)

module _ {a : List Bool} {from to top n : ℕ} {store index : List ℕ} (w : Walk a from to top store index) (low : from < top) (size : n ≡ get_or store (from + 1) 0) where
  next : after_clause store from ≡ from + 2 + n
  unfolding after_clause
  next = ap (λ (x : ℕ). from + 2 + x) (sym size)

  rest : Reached store (from + 2 + n) top
  rest = ⊎_elim (λ e. absurd (omega arith)) (λ r. subst (λ (x : ℕ). Reached store x top) next r) (reached-next w.high)

  -- the clause at `from` ends before the first free place
  pub ends : from + 2 + n ≤ top
  ends = reached-past rest

  -- another waiting clause stands after it
  later : (j c : ℕ) → Stored a store from top j c → (from ≡ c → ⊥) → Stored a store (from + 2 + n) top j c
  later j c s f = record {
    reached = ⊎_elim (λ e. absurd (f e)) (λ r. subst (λ (x : ℕ). Reached store x c) next r) (reached-next s.reached);
    inside = s.inside;
    named = s.named;
    true = s.true;
  }

  -- forgotten, it is passed over
  pub walk-over : (get_or index (get_or store from 0) 0 ≡ from → ⊥) → Walk a (from + 2 + n) to top store index
  walk-over dead = record {
    stored = λ j p. ⊎_elim (λ s. inl s) (λ s. inr (later j (get_or index j 0) s (λ e. dead (its j s e)))) (w.stored j p);
    low = w.low;
    high = rest;
  }
    where
      its : (j : ℕ) → Stored a store from top j (get_or index j 0) → from ≡ get_or index j 0 → get_or index (get_or store from 0) 0 ≡ from
      its j s e = ap (λ (x : ℕ). get_or index x 0) (ap (λ (x : ℕ). get_or store x 0) e ∙ s.named) ∙ sym e

  -- else it moves
  module _ {after : List ℕ} (i : ℕ) (name : i ≡ get_or store from 0) (inside : i < length index) (live : get_or index i 0 ≡ from) (one : 1 ≤ from) (down : to ≤ from) (moved : MovedDown from to (n + 2) store after) where
    under : Agree store after 1 to
    under = record { same = λ p l u. moved.below p u }

    over : Agree store after (from + 2 + n) top
    over = record { same = λ p l u. moved.above p (omega arith) }

    its-length : get_or after (to + 1) 0 ≡ n
    its-length = moved.moved 1 (omega arith) ∙ sym size

    its-end : after_clause after to ≡ to + n + 2
    unfolding after_clause
    its-end = omega (arith, its-length)

    its-name : get_or after to 0 ≡ i
    its-name =
        let x : to ≡ to + 0 = omega arith in
        let y : from + 0 ≡ from = omega arith in
        ap (λ (p : ℕ). get_or after p 0) x ∙ moved.moved 0 (omega arith) ∙ ap (λ (p : ℕ). get_or store p 0) y ∙ sym name

    its-words : stored_true a after to ≡ stored_true a store from
    unfolding stored_true
    its-words =
        ap (some_true a after (to + 2)) (its-length ∙ size)
        ∙ some_same a store after (from + 2) (to + 2) (get_or store (from + 1) 0) (λ k l. at k (omega arith))
      where
        at : (k : ℕ) → k + 2 < n + 2 → get_or after (to + 2 + k) 0 ≡ get_or store (from + 2 + k) 0
        at k l =
            let x : to + 2 + k ≡ to + (k + 2) = omega arith in
            let y : from + (k + 2) ≡ from + 2 + k = omega arith in
            ap (λ (p : ℕ). get_or after p 0) x ∙ moved.moved (k + 2) l ∙ ap (λ (p : ℕ). get_or store p 0) y

    was-true : T (stored_true a store from)
    was-true =
        ⊎_elim (λ s. absurd (omega (arith, live, s.inside, after-past store (get_or index i 0))))
        (λ s. subst (λ (x : ℕ). T (stored_true a store x)) live s.true)
        (w.stored i (omega (arith, live)))

    its-place : Reached after 1 to
    its-place = reached-agree under (omega arith) w.low

    pub walk-on : Walk a (from + 2 + n) (to + n + 2) top after (set index i to)
    walk-on = record {
      stored = λ j p. go j p (ℕ_discrete j i);
      low = subst (Reached after 1) its-end (reached-more its-place);
      high = reached-agree over (omega arith) rest;
    }
      where
        go : (j : ℕ) → 0 < get_or (set index i to) j 0 → Dec (j ≡ i) → Stored a after 1 (to + n + 2) j (get_or (set index i to) j 0) ⊎ Stored a after (from + 2 + n) top j (get_or (set index i to) j 0)
        go j p (yes e) =
            inl (subst (Stored a after 1 (to + n + 2) j) (sym (ap (λ (x : ℕ). get_or (set index i to) x 0) e ∙ get_or-set_same index i to 0 inside))
            (record { reached = its-place; inside = omega (arith, its-end); named = its-name ∙ sym e; true = subst T (sym its-words) was-true }))
        go j p (no e) =
            let o = get_or-set_other index i j to 0 e in
            subst (λ (c : ℕ). Stored a after 1 (to + n + 2) j c ⊎ Stored a after (from + 2 + n) top j c) (sym o)
            (⊎_elim
            (λ s. inl (stored-agree under s (omega arith)))
            (λ s. inr (stored-agree over (later j (get_or index j 0) s (λ z. e (sym s.named ∙ ap (λ (x : ℕ). get_or store x 0) (sym z) ∙ sym name))) (omega arith)))
            (w.stored j (omega (arith, p, o))))

-- ---- the whole walk

pub walk_start : {a : List Bool} {top at stamp : ℕ} {proved refuted : Bool} {store index marks : List ℕ} → Kept a top at stamp proved refuted store index marks → Walk a 1 1 top store index
walk_start h = record { stored = λ i p. inr (h.stored i p); low = reached-here; high = h.last }

pub walk_end : {a : List Bool} {top at stamp : ℕ} {proved refuted : Bool} {store index marks : List ℕ} → Kept a top at stamp proved refuted store index marks → at ≤ top + 2
    → (from to : ℕ) (store' index' : List ℕ) → top ≤ from → Walk a from to top store' index' → Kept a to (to + 2) stamp proved refuted store' index' marks
walk_end {a} {top} {at} {stamp} {proved} {refuted} {store} h empty from to store' index' l w = record {
  stored = λ i p. ⊎_elim (λ s. s) (λ s. absurd (omega (arith, reached-past s.reached, after-past store' (get_or index' i 0), s.inside))) (w.stored i p);
  last = w.low;
  place = omega arith;
  fresh = h.fresh;
  marked = λ f. h.marked (begun-none a top at store empty);
  implied = λ p. absurd (subst T (begun-none a top at store empty) (h.implied p));
  unrefuted = h.unrefuted;
}
