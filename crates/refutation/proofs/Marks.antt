-- Laws of marks: words that were passed, a word that is marked, cleared slices. Assumes nothing.
use Rattle.std.proofs.Common.{◌≡◌, ℕ, zero, suc, ◌+◌, ◌-◌, ◌/◌, ◌%◌, ◌<◌, ◌≤◌, Bool, true, false, cond, not, T, eqb, ◌⊎◌, List, [], ◌∷◌, length, get_or, set, sym, refl, ap, ◌∙◌, subst, inl, inr, ⊎_elim, arith, length-set, get_or-set_other, get_or-set_same, eq-eqb, ne_eqb}
use Rattle.std.specs.Prelude.{Option, None, Some}
use Rattle.std.specs.Option.{is_some}
use Rattle.std.proofs.lemmas.Option.{none-some}
use native.Mathlib.Decide.{ℕ_discrete}
use Rattle.model.specs.Close.{truth}
use Rattle.model.proofs.Lists.{T_true}
use Rattle.refutation.specs.Sound.{word_true, flipped, some_true, Falsified}
use Rattle.refutation.proofs.Clauses.{true-at}

pub true-false : true ≡ false → ⊥
true-false e = let z : ◌≡◌ {A = ℕ} 0 1 = cc in omega arith

T_not : (b : Bool) → T b → b ≡ false → ⊥
T_not true t e = true-false e
T_not false t e = t

pub by_refutation : (b : Bool) → (b ≡ false → ⊥) → T b
by_refutation true f = tt
by_refutation false f = f refl

-- ---- words that were passed: each is marked, or the one that is kept

abbrev pub Passed : List ℕ → List ℕ → ℕ → Option ℕ → ℕ → Type 0
Passed store marks stamp unit k =
    ((get_or store k 0 < length marks) × (get_or marks (get_or store k 0) 0 ≡ stamp)) ⊎ (unit ≡ Some (get_or store k 0))

pub record AllPassed (store marks : List ℕ) (stamp : ℕ) (unit : Option ℕ) (b i : ℕ) : Type 0 where
  pub each : (k : ℕ) → b ≤ k → k < i → Passed store marks stamp unit k

module _ {a : List Bool} {store : List ℕ} {b e : ℕ} {marks : List ℕ} {stamp : ℕ} {unit : Option ℕ} {i : ℕ} (h : AllPassed store marks stamp unit b i) (end : e ≤ i) (t : T (some_true a store b (e - b))) (m : Falsified a marks stamp) where
  -- the one kept is true
  pub forced : (w : ℕ) → unit ≡ Some w → T (word_true a w)
  forced w u =
      let f = true-at a store b (e - b) t in
      ⊎_elim
      (λ y. absurd (T_not _ f.true (m.off (get_or store f.at 0) y.0 y.1)))
      (λ y. let same : get_or store f.at 0 ≡ w = cc in subst (λ (x : ℕ). T (word_true a x)) same f.true)
      (h.each f.at f.low (omega (arith, f.low, f.high)))

  -- where none is kept, there is no such assignment
  pub conflict : unit ≡ None → ⊥
  conflict n =
      let f = true-at a store b (e - b) t in
      ⊎_elim
      (λ y. T_not _ f.true (m.off (get_or store f.at 0) y.0 y.1))
      (λ y. none-some _ (sym n ∙ y))
      (h.each f.at f.low (omega (arith, f.low, f.high)))

module _ {store marks : List ℕ} {stamp : ℕ} {unit : Option ℕ} {b i : ℕ} (h : AllPassed store marks stamp unit b i) where
  -- a word more: kept, where none was
  pub pass_kept : is_some unit ≡ false → (now : Option ℕ) → now ≡ Some (get_or store i 0) → AllPassed store marks stamp now b (i + 1)
  pass_kept e now q = record { each = λ k l u. go k l u (ℕ_discrete k i) }
    where
      go : (k : ℕ) → b ≤ k → k < i + 1 → Dec (k ≡ i) → Passed store marks stamp now k
      go k l u (yes x) = inr (q ∙ ap (λ (n : ℕ). Some (get_or store n 0)) (sym x))
      go k l u (no x) = ⊎_elim (λ y. inl y) (λ y. absurd (true-false (sym (ap is_some y) ∙ e))) (h.each k l (omega arith))

  -- or marked
  pub pass-marked : (j : ℕ) → j ≡ get_or store i 0 → j < length marks → get_or marks j 0 ≡ stamp → (now : Option ℕ) → now ≡ unit → AllPassed store marks stamp now b (i + 1)
  pass-marked j o r m now q = record { each = λ k l u. go k l u (ℕ_discrete k i) }
    where
      go : (k : ℕ) → b ≤ k → k < i + 1 → Dec (k ≡ i) → Passed store marks stamp now k
      go k l u (yes x) = inl (subst (λ (n : ℕ). (get_or store n 0 < length marks) × (get_or marks (get_or store n 0) 0 ≡ stamp)) (sym x) (subst (λ (n : ℕ). (n < length marks) × (get_or marks n 0 ≡ stamp)) o (r, m)))
      go k l u (no x) = ⊎_elim (λ y. inl y) (λ y. inr (q ∙ y)) (h.each k l (omega arith))

-- ---- a word that is marked

true-not : (b : Bool) → b ≡ true → not b ≡ false
true-not b e = rw e

word-flipped : (a : List Bool) (w : ℕ) → word_true a (flipped w) ≡ not (word_true a w)
unfolding word_true flipped
word-flipped a w = go (ℕ_discrete (w % 2) 0)
  where
    not-not : (b : Bool) → b ≡ not (not b)
    not-not true = refl
    not-not false = refl

    go : Dec (w % 2 ≡ 0)
        → cond (eqb (cond (eqb (w % 2) 0) (w + 1) (w - 1) % 2) 0) (truth a (cond (eqb (w % 2) 0) (w + 1) (w - 1) / 2)) (not (truth a (cond (eqb (w % 2) 0) (w + 1) (w - 1) / 2)))
        ≡ not (cond (eqb (w % 2) 0) (truth a (w / 2)) (not (truth a (w / 2))))
    go (yes e) =
        let h : (w + 1) / 2 ≡ w / 2 = omega arith in
        let o : (w + 1) % 2 ≡ 1 = omega arith in
        rw (eq-eqb (w % 2) 0 e, h, o)
    go (no e) =
        let h : (w - 1) / 2 ≡ w / 2 = omega arith in
        let o : (w - 1) % 2 ≡ 0 = omega arith in
        rw (ne_eqb (w % 2) 0 e, h, o) (not-not (truth a (w / 2)))

pub flip-false : (a : List Bool) (w : ℕ) → T (word_true a w) → word_true a (flipped w) ≡ false
flip-false a w t = word-flipped a w ∙ true-not (word_true a w) (T_true (word_true a w) t)

pub mark-false : {a : List Bool} {marks : List ℕ} {stamp : ℕ} → Falsified a marks stamp → (k : ℕ) → word_true a k ≡ false → Falsified a (set marks k stamp) stamp
mark-false {a} {marks} {stamp} m k f = record { off = λ w l e. go w l e (ℕ_discrete w k) }
  where
    go : (w : ℕ) → w < length (set marks k stamp) → get_or (set marks k stamp) w 0 ≡ stamp → Dec (w ≡ k) → word_true a w ≡ false
    go w l e (yes x) = subst (λ (n : ℕ). word_true a n ≡ false) (sym x) f
    go w l e (no x) = m.off w (omega (arith, l, length-set marks k stamp)) (sym (get_or-set_other marks k w stamp 0 x) ∙ e)

pub mark-fresh : (marks : List ℕ) (stamp k : ℕ) → ((w : ℕ) → get_or marks w 0 ≤ stamp) → k < length marks → (w : ℕ) → get_or (set marks k stamp) w 0 ≤ stamp
mark-fresh marks stamp k h l w = go (ℕ_discrete w k)
  where
    go : Dec (w ≡ k) → get_or (set marks k stamp) w 0 ≤ stamp
    go (yes x) = omega (arith, ap (λ (n : ℕ). get_or (set marks k stamp) n 0) x, get_or-set_same marks k stamp 0 l)
    go (no x) = omega (arith, get_or-set_other marks k w stamp 0 x, h w)

-- ---- past the end

pub past_end : (xs : List ℕ) (w : ℕ) → length xs ≤ w → get_or xs w 0 ≡ 0
past_end [] w h = refl
past_end (x ∷ xs) zero h = absurd (omega arith)
past_end (x ∷ xs) (suc w) h = past_end xs w (omega arith)
