-- Decimal numbers: digit by digit, read back, and how long they are. Assumes nothing.
use mathlib.Core.Path.{◌≡◌, refl, sym, ap, ◌∙◌, subst}
use mathlib.Core.Bool.{Bool, true, false, ◌&&◌, cond}
use mathlib.Core.List.{List, [], ◌∷◌, ◌++◌}
use Rattle.std.specs.Prelude.{None, Some}
use Prim.Native.Nat.{ℕ, zero, suc, ◌+◌, ◌-◌, ◌*◌, ◌/◌, ◌%◌, ◌^◌, ◌≤◌, ◌<◌}
use native.Mathlib.Nat.{le_of_eq, pow-suc}
use native.Mathlib.Omega.{arith}
use native.Mathlib.Decide.{dec_lt}
use borrow.Author.Tests.{lt-ltb, le-ltb, le-leb, ne_eqb}
use lib.Dec.{leb, ltb, eqb}
use lib.ListN.{length, get_or, length-append, get_or-append}
use Rattle.model.specs.Lists.{between, is_empty}
use Rattle.model.specs.Sheet.{digits_after, number_of}
use Rattle.model.specs.Text.{digits, decimal}
use Rattle.model.specs.Dimacs.{natural}
use Rattle.model.proofs.Lists.{All, all_both}

digits-small : (p v : ℕ) → v < 10 → digits (suc p) v ≡ (48 + v) ∷ []
unfolding digits
digits-small p v h = rw (lt-ltb v 10 h, digits)

digits_more : (p v : ℕ) → 10 ≤ v → digits (suc p) v ≡ digits p (v / 10) ++ ((48 + v % 10) ∷ [])
unfolding digits
digits_more p v h = rw (le-ltb v 10 h, digits)

fuel : (p q v : ℕ) → v < p → v < q → digits p v ≡ digits q v
fuel zero q v hp hq = absurd (omega arith)
fuel (suc p) zero v hp hq = absurd (omega arith)
fuel (suc p) (suc q) v hp hq = elim (dec_lt v 10) [ yes h ↦ digits-small p v h ∙ sym (digits-small q v h) | no h ↦ step (fuel p q (v / 10)) (omega arith) ]
  where
    step : (v / 10 < p → v / 10 < q → digits p (v / 10) ≡ digits q (v / 10)) → 10 ≤ v → digits (suc p) v ≡ digits (suc q) v
    step ih h = digits_more p v h ∙ ap (λ (l : List ℕ). l ++ (48 + v % 10) ∷ []) (ih (omega arith) (omega arith)) ∙ sym (digits_more q v h)

pub decimal-small : (v : ℕ) → v < 10 → decimal v ≡ (48 + v % 10) ∷ []
unfolding decimal
decimal-small v h = digits-small v v h ∙ ap (λ (d : ℕ). (48 + d) ∷ []) (omega arith)

pub decimal-more : (v : ℕ) → 10 ≤ v → decimal v ≡ decimal (v / 10) ++ (48 + v % 10) ∷ []
unfolding decimal
decimal-more v h = digits_more v v h ∙ ap (λ (l : List ℕ). l ++ (48 + v % 10) ∷ []) (fuel v (suc (v / 10)) (v / 10) (omega arith) (omega arith))

-- what holds of the digits of one digit, and of more where it holds of those before the last
by_digits : (P : ℕ → List ℕ → Type 0) → ((v : ℕ) → v < 10 → P v ((48 + v) ∷ []))
    → ((v : ℕ) (ds : List ℕ) → 10 ≤ v → P (v / 10) ds → P v (ds ++ ((48 + v % 10) ∷ [])))
    → (v : ℕ) → P v (decimal v)
unfolding decimal
by_digits P one more v = go (suc v) v (omega arith)
  where
    go : (p v : ℕ) → v < p → P v (digits p v)
    go zero v h = absurd (omega arith)
    go (suc p) v h = choose (dec_lt v 10) (go p (v / 10))
      where
        choose : Dec (v < 10) → (v / 10 < p → P (v / 10) (digits p (v / 10))) → P v (digits (suc p) v)
        choose (yes l) ih = subst (P v) (sym (digits-small p v l)) (one v l)
        choose (no l) ih = subst (P v) (sym (digits_more p v (omega arith))) (more v (digits p (v / 10)) (omega arith) (ih (omega arith)))

-- ---- reading

digit-read : (u d : ℕ) → d < 10 → digits_after u ((48 + d) ∷ []) ≡ Some (u * 10 + d)
digit-read u d h =
    let a : leb 48 (48 + d) ≡ true = le-leb 48 (48 + d) (omega arith) in
    let b : leb (48 + d) 57 ≡ true = le-leb (48 + d) 57 (omega arith) in
    let c : 48 + d - 48 ≡ d = omega arith in
    rw (a, b, c)

read-append : (xs ys : List ℕ) (u w : ℕ) → digits_after u xs ≡ Some w → digits_after u (xs ++ ys) ≡ digits_after w ys
read-append [] ys u w h = ap (λ (x : ℕ). digits_after x ys) (some-eq h)
  where
    some-eq : Some u ≡ Some w → u ≡ w
    some-eq e = cc
read-append (x ∷ xs) ys u w h = go (between 48 57 x) (read-append xs ys (u * 10 + (x - 48)) w) h
  where
    go : (b : Bool) → (digits_after (u * 10 + (x - 48)) xs ≡ Some w → digits_after (u * 10 + (x - 48)) (xs ++ ys) ≡ digits_after w ys)
        → cond b (digits_after (u * 10 + (x - 48)) xs) None ≡ Some w → cond b (digits_after (u * 10 + (x - 48)) (xs ++ ys)) None ≡ digits_after w ys
    go true ih e = ih e
    go false ih e = absurd (let z : ◌≡◌ {A = ℕ} 0 1 = cc in omega arith)

pub decimal-reads : (v : ℕ) → digits_after 0 (decimal v) ≡ Some v
decimal-reads =
    by_digits (λ v ds. digits_after 0 ds ≡ Some v) (λ v h. digit-read 0 v h ∙ ap Some (omega arith))
    (λ v ds h e. read-append ds ((48 + v % 10) ∷ []) 0 (v / 10) e ∙ digit-read (v / 10) (v % 10) (omega arith) ∙ ap Some (omega arith))

-- ---- the digits themselves

pub decimal-digits : (v : ℕ) → All (λ b. (48 ≤ b) × (b ≤ 57)) (decimal v)
decimal-digits =
    by_digits (λ v ds. All (λ b. (48 ≤ b) × (b ≤ 57)) ds) (λ v h. ((omega arith, omega arith), tt))
    (λ v ds h e. (all_both (λ b. (48 ≤ b) × (b ≤ 57)) ds ((48 + v % 10) ∷ [])).1 (e, ((omega arith, omega arith), tt)))

pub decimal-some : (v : ℕ) → 0 < length (decimal v)
decimal-some = by_digits (λ v ds. 0 < length ds) (λ v h. omega arith) (λ v ds h e. omega (arith, length-append ds ((48 + v % 10) ∷ [])))

-- no needless leading zero
pub decimal-first : (v : ℕ) → 1 ≤ v → 49 ≤ get_or (decimal v) 0 0
decimal-first =
    λ v h. (by_digits (λ v ds. (0 < length ds) × (1 ≤ v → 49 ≤ get_or ds 0 0)) (λ v l. (omega arith, λ k. omega arith))
    (λ v ds l e. let Some = e.0 in (
      omega (arith, length-append ds ((48 + v % 10) ∷ [])),
      λ k. rw (get_or-append ds ((48 + v % 10) ∷ []) 0 0 Some) (e.1 (omega arith)),
    )) v).1 h

pub decimal-one : (v : ℕ) → v < 10 → length (decimal v) ≡ 1
decimal-one v h = ap length (decimal-small v h)

pub decimal-number : (v : ℕ) → number_of (decimal v) ≡ Some v
unfolding number_of
decimal-number v =
    let e : eqb (length (decimal v)) 0 ≡ false = ne_eqb (length (decimal v)) 0 (λ z. let h = decimal-some v in omega arith) in
    rw (e, zero-free (dec_lt v 10)) (decimal-reads v)
  where
    zero-free : Dec (v < 10) → (ltb 1 (length (decimal v)) && eqb (get_or (decimal v) 0 0) 48) ≡ false
    zero-free (yes h) = rw (decimal-one v h)
    zero-free (no h) =
        let f : eqb (get_or (decimal v) 0 0) 48 ≡ false = ne_eqb (get_or (decimal v) 0 0) 48 (λ z. let k = decimal-first v (omega arith) in omega arith) in
        rw f (go (ltb 1 (length (decimal v))))
      where
        go : (b : Bool) → (b && false) ≡ false
        go true = refl
        go false = refl

pub decimal-natural : (v : ℕ) → natural (decimal v) ≡ Some v
unfolding natural
decimal-natural v = go (decimal v) (decimal-some v) (decimal-reads v)
  where
    go : (ds : List ℕ) → 0 < length ds → digits_after 0 ds ≡ Some v → cond (is_empty ds) None (digits_after 0 ds) ≡ Some v
    go [] h e = absurd (omega arith)
    go (d ∷ ds) h e = e

-- ---- how many

pub decimal-length : (v : ℕ) → 10 ≤ v → length (decimal v) ≡ length (decimal (v / 10)) + 1
decimal-length v h = rw (decimal-more v h) (rw length-append)

pub decimal-bound : (k v : ℕ) → v < 10 ^ suc k → length (decimal v) ≤ suc k
decimal-bound zero v h = le_of_eq (decimal-one v (omega arith))
decimal-bound (suc k) v h = go (dec_lt v 10) (decimal-bound k (v / 10))
  where
    go : Dec (v < 10) → (v / 10 < 10 ^ suc k → length (decimal (v / 10)) ≤ suc k) → length (decimal v) ≤ suc (suc k)
    go (yes l) ih = omega (arith, decimal-one v l)
    go (no l) ih =
        let e : 10 ^ suc (suc k) ≡ 10 ^ suc k * 10 = pow-suc 10 (suc k) in
        omega (arith, decimal-length v (omega arith), ih (omega (arith, e)))
