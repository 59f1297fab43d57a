-- Laws of clauses in a store: true words among some, places that are reached, stores that agree. Assumes nothing.
use Rattle.std.proofs.Common.{◌≡◌, ℕ, zero, suc, ◌+◌, ◌<◌, ◌≤◌, Bool, true, false, ◌||◌, T, ◌⊎◌, List, get_or, sym, refl, ap, ◌∙◌, subst, ap₂, inl, inr, arith}
use Rattle.model.proofs.Lists.{or-false, or_assoc}
use Rattle.refutation.specs.Sound.{word_true, some_true, stored_true, after_clause, after_clauses, Reached, Stored}

-- ---- words

-- the place of a true word
pub record TrueAt (a : List Bool) (store : List ℕ) (b e : ℕ) : Type 0 where
  pub at : ℕ
  pub low : b ≤ at
  pub high : at < e
  pub true : T (word_true a (get_or store at 0))

pub true-at : (a : List Bool) (store : List ℕ) (b n : ℕ) → T (some_true a store b n) → TrueAt a store b (b + n)
true-at a store b zero t = absurd t
true-at a store b (suc n) t = go (word_true a (get_or store b 0)) refl t (true-at a store (suc b) n)
  where
    go : (x : Bool) → word_true a (get_or store b 0) ≡ x → T (x || some_true a store (suc b) n) → (T (some_true a store (suc b) n) → TrueAt a store (suc b) (suc b + n)) → TrueAt a store b (b + suc n)
    go true e u rest = record { at = b; low = omega arith; high = omega arith; true = subst T (sym e) tt }
    go false e u rest =
        let r = rest u in
        record { at = r.at; low = omega (arith, r.low); high = omega (arith, r.high); true = r.true }

-- the same words at two places
pub some_same : (a : List Bool) (xs ys : List ℕ) (b c n : ℕ) → ((k : ℕ) → k < n → get_or ys (c + k) 0 ≡ get_or xs (b + k) 0) → some_true a ys c n ≡ some_true a xs b n
some_same a xs ys b c zero h = refl
some_same a xs ys b c (suc n) h =
    let first : get_or ys c 0 ≡ get_or xs b 0 = shifted c b 0 0 (omega arith) (omega arith) (h 0 (omega arith)) in
    ap₂ ◌||◌ (ap (word_true a) first) (some_same a xs ys (suc b) (suc c) n (λ k l. shifted (suc c + k) (suc b + k) (suc k) (suc k) (omega arith) (omega arith) (h (suc k) (omega arith))))
  where
    shifted : (p q i j : ℕ) → c + i ≡ p → b + j ≡ q → get_or ys (c + i) 0 ≡ get_or xs (b + j) 0 → get_or ys p 0 ≡ get_or xs q 0
    shifted p q i j e f g = ap (λ (x : ℕ). get_or ys x 0) (sym e) ∙ g ∙ ap (λ (x : ℕ). get_or xs x 0) f

-- a word more at the end
pub some_more : (a : List Bool) (store : List ℕ) (b n : ℕ) → some_true a store b (suc n) ≡ (some_true a store b n || word_true a (get_or store (b + n) 0))
some_more a store b zero = or-false (word_true a (get_or store b 0)) ∙ ap (λ (p : ℕ). word_true a (get_or store p 0)) (let e : b ≡ b + 0 = omega arith in e)
some_more a store b (suc n) =
    let e : suc b + n ≡ b + suc n = omega arith in
    ap (λ x. word_true a (get_or store b 0) || x) (some_more a store (suc b) n ∙ ap (λ (p : ℕ). some_true a store (suc b) n || word_true a (get_or store p 0)) e)
    ∙ sym (or_assoc (word_true a (get_or store b 0)) (some_true a store (suc b) n) (word_true a (get_or store (b + suc n) 0)))

-- ---- places

pub after-past : (store : List ℕ) (c : ℕ) → c + 2 ≤ after_clause store c
unfolding after_clause
after-past store c = omega arith

afters_past : (store : List ℕ) (k c : ℕ) → c ≤ after_clauses store k c
afters_past store zero c = omega arith
afters_past store (suc k) c = omega (arith, after-past store c, afters_past store k (after_clause store c))

afters_last : (store : List ℕ) (k c : ℕ) → after_clauses store (suc k) c ≡ after_clause store (after_clauses store k c)
afters_last store zero c = refl
afters_last store (suc k) c = afters_last store k (after_clause store c)

pub reached-here : {store : List ℕ} {b : ℕ} → Reached store b b
reached-here = record { count = 0; there = refl }

pub reached-past : {store : List ℕ} {b c : ℕ} → Reached store b c → b ≤ c
reached-past {store} {b} {c} r = omega (arith, r.there, afters_past store r.count b)

pub reached-more : {store : List ℕ} {b c : ℕ} → Reached store b c → Reached store b (after_clause store c)
reached-more {store} {b} {c} r = record { count = suc r.count; there = afters_last store r.count b ∙ ap (after_clause store) r.there }

pub reached-next : {store : List ℕ} {b c : ℕ} → Reached store b c → (b ≡ c) ⊎ Reached store (after_clause store b) c
reached-next {store} {b} {c} r = go r.count r.there
  where
    go : (k : ℕ) → after_clauses store k b ≡ c → (b ≡ c) ⊎ Reached store (after_clause store b) c
    go zero e = inl e
    go (suc k) e = inr (record { count = k; there = e })

-- ---- stores that agree from place b to place e

pub record Agree (xs ys : List ℕ) (b e : ℕ) : Type 0 where
  pub same : (p : ℕ) → b ≤ p → p < e → get_or ys p 0 ≡ get_or xs p 0

after-agree : (xs ys : List ℕ) (c : ℕ) → get_or ys (c + 1) 0 ≡ get_or xs (c + 1) 0 → after_clause ys c ≡ after_clause xs c
unfolding after_clause
after-agree xs ys c e = ap (λ (n : ℕ). c + 2 + n) e

afters_agree : {xs ys : List ℕ} (k b e : ℕ) → Agree xs ys b e → after_clauses xs k b ≤ e → after_clauses ys k b ≡ after_clauses xs k b
afters_agree zero b e h l = refl
afters_agree {xs} {ys} (suc k) b e h l =
    let past = afters_past xs k (after_clause xs b) in
    let two = after-past xs b in
    let first : after_clause ys b ≡ after_clause xs b = after-agree xs ys b (h.same (b + 1) (omega arith) (omega arith)) in
    ap (after_clauses ys k) first ∙ afters_agree k (after_clause xs b) e (record { same = λ p u v. h.same p (omega arith) v }) l

pub reached-agree : {xs ys : List ℕ} {b c e : ℕ} → Agree xs ys b e → c ≤ e → Reached xs b c → Reached ys b c
reached-agree {xs} {ys} {b} {c} {e} h l r =
    let u : after_clauses xs r.count b ≤ e = omega (arith, r.there) in
    record { count = r.count; there = afters_agree r.count b e h u ∙ r.there }

-- a stored clause stays one, where the places up to its end agree
module _ {a : List Bool} {xs ys : List ℕ} {b e i c : ℕ} (h : Agree xs ys b e) (s : Stored a xs b e i c) where
  reaches : b ≤ c
  reaches = reached-past s.reached

  length-same : get_or ys (c + 1) 0 ≡ get_or xs (c + 1) 0
  length-same = h.same (c + 1) (omega (arith, reaches)) (omega (arith, after-past xs c, s.inside))

  words : (k : ℕ) → k < get_or xs (c + 1) 0 → c + 2 + k < e
  unfolding after_clause
  words k l = omega (arith, s.inside)

  true_same : stored_true a ys c ≡ stored_true a xs c
  unfolding stored_true
  true_same =
      ap (some_true a ys (c + 2)) length-same
      ∙ some_same a xs ys (c + 2) (c + 2) (get_or xs (c + 1) 0) (λ k l. h.same (c + 2 + k) (omega (arith, reaches)) (words k l))

  pub stored-agree : {f : ℕ} → e ≤ f → Stored a ys b f i c
  stored-agree l = record {
    reached = reached-agree h (omega (arith, after-past xs c, s.inside)) s.reached;
    inside = omega (arith, after-agree xs ys c length-same, s.inside);
    named = h.same c reaches (omega (arith, after-past xs c, s.inside)) ∙ s.named;
    true = subst T (sym true_same) s.true;
  }
