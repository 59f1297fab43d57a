-- Laws of the text of a clause of which some terms are known. Assumes nothing.
use mathlib.Core.Path.{◌≡◌, refl, ap, sym, ◌∙◌}
use mathlib.Core.List.{List, [], ◌∷◌, ◌++◌, append_assoc, append-nil}
use mathlib.Core.Bool.{true, false}
use Prim.Native.Nat.{ℕ, zero, suc, ◌+◌, ◌≤◌, ◌<◌}
use lib.ListN.{length, length-append, take, get_or}
use native.Mathlib.Numerals.{add-one}
use lib.Seq.{take_all, take-suc}
use native.Mathlib.Omega.{arith}
use Rattle.model.specs.declared.Term.{Term}
use Rattle.model.specs.declared.Term.TheVariants.{Holds, Fails, Open}
use Rattle.std.specs.List.{list_any, flat_map}
use Rattle.model.specs.Totalizer.{holds, literals, keep}
use Rattle.model.specs.Text.{literal_text, clause_text}
use Rattle.model.proofs.Lists.{each_append}
use Rattle.text.specs.Put.{term_text, kept_text}

-- ---- the first terms, one more at a time

pub terms_next : (ts : List Term) (i : ℕ) (d : Term) → i < length ts
    → flat_map term_text (take (i + 1) ts) ≡ flat_map term_text (take i ts) ++ term_text (get_or ts i d)
terms_next ts i d h =
    ap (flat_map term_text) (ap (λ (n : ℕ). take n ts) (add-one i) ∙ take-suc ts i d h)
    ∙ each_append term_text (take i ts) (get_or ts i d ∷ [])
    ∙ ap (λ (l : List ℕ). flat_map term_text (take i ts) ++ l) (append-nil (term_text (get_or ts i d)))

pub terms_room : (ts : List Term) (i k : ℕ) (d : Term) → i < k → i < length ts
    → length (flat_map term_text (take i ts)) + length (term_text (get_or ts i d)) ≤ length (flat_map term_text (take k ts))
terms_room [] i k d h n = absurd (omega arith)
terms_room (t ∷ ts) i zero d h n = absurd (omega arith)
terms_room (t ∷ ts) zero (suc k) d h n = rw length-append (omega arith)
terms_room (t ∷ ts) (suc i) (suc k) d h n =
    rw (length-append (term_text t) (flat_map term_text (take i ts)), length-append (term_text t) (flat_map term_text (take k ts)))
    (omega (arith, terms_room ts i k d (omega arith) (omega arith)))

pub terms_length : (ts : List Term) (i : ℕ) (d : Term) → i < length ts
    → length (flat_map term_text (take (i + 1) ts)) ≡ length (flat_map term_text (take i ts)) + length (term_text (get_or ts i d))
terms_length ts i d h = ap length (terms_next ts i d h) ∙ length-append (flat_map term_text (take i ts)) (term_text (get_or ts i d))

pub terms_all : (ts : List Term) (k : ℕ) → length ts ≤ k → flat_map term_text (take k ts) ≡ flat_map term_text ts
terms_all ts k h = ap (flat_map term_text) (take_all k ts h)

pub three-text : (x y z : Term) → flat_map term_text (x ∷ y ∷ z ∷ []) ≡ (term_text x ++ term_text y) ++ term_text z
three-text x y z =
    ap (λ (l : List ℕ). term_text x ++ (term_text y ++ l)) (append-nil (term_text z)) ∙ sym (append_assoc (term_text x) (term_text y) (term_text z))

pub three-length : (x y z : Term) → length (flat_map term_text (x ∷ y ∷ z ∷ [])) ≡ length (term_text x) + length (term_text y) + length (term_text z)
three-length x y z =
    ap length (three-text x y z)
    ∙ length-append (term_text x ++ term_text y) (term_text z)
    ∙ ap (λ (k : ℕ). k + length (term_text z)) (length-append (term_text x) (term_text y))

-- ---- a clause that is kept, and one that is left out

terms_text : (ts : List Term) → flat_map literal_text (literals ts) ≡ flat_map term_text ts
terms_text [] = refl
terms_text (Holds ∷ ts) = terms_text ts
terms_text (Fails ∷ ts) = terms_text ts
terms_text (Open l ∷ ts) = ap (λ (t : List ℕ). literal_text l ++ t) (terms_text ts)

pub live : (ts : List Term) → list_any holds ts ≡ false → kept_text ts ≡ (flat_map term_text ts ++ 48 ∷ []) ++ 10 ∷ []
unfolding kept_text keep clause_text
live ts p =
    rw p
    (append-nil (flat_map literal_text (literals ts) ++ 48 ∷ 10 ∷ [])
    ∙ ap (λ (l : List ℕ). l ++ 48 ∷ 10 ∷ []) (terms_text ts)
    ∙ sym (append_assoc (flat_map term_text ts) (48 ∷ []) (10 ∷ [])))

pub live-length : (ts : List Term) → list_any holds ts ≡ false → length (kept_text ts) ≡ length (flat_map term_text ts) + 2
live-length ts p = rw (live ts p) (simp length-append (omega arith))

pub dead : (ts : List Term) → list_any holds ts ≡ true → kept_text ts ≡ []
unfolding kept_text keep
dead ts p = rw p

-- ---- a clause of at most three terms, filled up with false ones

pub past_end : (ts : List Term) (i : ℕ) → length ts ≤ i → Fails ≡ get_or ts i Fails
past_end [] i h = refl
past_end (t ∷ ts) zero h = absurd (omega arith)
past_end (t ∷ ts) (suc i) h = past_end ts i (omega arith)

module _ where
  abbrev filled : List Term → List Term
  filled ts = get_or ts 0 Fails ∷ get_or ts 1 Fails ∷ get_or ts 2 Fails ∷ []

  filled-any : (ts : List Term) → length ts ≤ 3 → list_any holds (filled ts) ≡ list_any holds ts
  filled-any [] h = refl
  filled-any (x ∷ []) h = refl
  filled-any (x ∷ y ∷ []) h = refl
  filled-any (x ∷ y ∷ z ∷ []) h = refl
  filled-any (x ∷ y ∷ z ∷ w ∷ ts) h = absurd (omega arith)

  -- what has no literals adds none
  padded : (ts us : List Term) → literals us ≡ [] → literals (ts ++ us) ≡ literals ts
  padded [] us h = h
  padded (Holds ∷ ts) us h = padded ts us h
  padded (Fails ∷ ts) us h = padded ts us h
  padded (Open l ∷ ts) us h = ap (λ m. l ∷ m) (padded ts us h)

  filled-literals : (ts : List Term) → length ts ≤ 3 → literals (filled ts) ≡ literals ts
  filled-literals [] h = refl
  filled-literals (x ∷ []) h = padded (x ∷ []) (Fails ∷ Fails ∷ []) refl
  filled-literals (x ∷ y ∷ []) h = padded (x ∷ y ∷ []) (Fails ∷ []) refl
  filled-literals (x ∷ y ∷ z ∷ []) h = refl
  filled-literals (x ∷ y ∷ z ∷ w ∷ ts) h = absurd (omega arith)

  pub filled-text : (ts : List Term) → length ts ≤ 3 → kept_text (filled ts) ≡ kept_text ts
  unfolding kept_text keep
  filled-text ts h = rw (filled-any ts h, filled-literals ts h)

  module _ (ts : List Term) (x y z : Term) (h : length ts ≤ 3) (p : x ≡ get_or ts 0 Fails) (q : y ≡ get_or ts 1 Fails) (r : z ≡ get_or ts 2 Fails) where
    pub three-kept : kept_text (x ∷ y ∷ z ∷ []) ≡ kept_text ts
    three-kept = rw (p, q, r) (filled-text ts h)
