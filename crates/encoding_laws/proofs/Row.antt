-- A group's word and the values of its variables: each word between fixed and possible is read back from one list of values. Assumes nothing.
use mathlib.Core.Path.{◌≡◌, refl, sym, ap, ap₂, ◌∙◌}
use mathlib.Core.Bool.{Bool, true, false, ◌&&◌, ◌||◌, cond}
use mathlib.Core.List.{List, [], ◌∷◌, ◌++◌, map, head-eq_of_cons-eq, tail-eq_of_cons-eq}
use Prim.Native.Nat.{ℕ, zero, suc, ◌+◌, ◌*◌, ◌/◌, ◌%◌, ◌^◌, ◌≤◌, ◌<◌}
use native.Mathlib.Nat.{add-zero, zero-add, add_assoc}
use native.Mathlib.Omega.{arith}
use native.Mathlib.Decide.{dec_lt}
use lib.Dec.{eqb}
use lib.ListN.{length}
use Rattle.std.specs.List.{flat_map}
use Rattle.model.specs.Lists.{those, range}
use Rattle.model.specs.Words.{size, bit, has, word_where}
use Rattle.model.specs.Fill.{open_values, count}
use Rattle.model.proofs.Words.{bit-first, bit-next, bit_le, bit_past, has_first, has-next, has_one, has-none, has_where, word_first, word_ext, where_lt, size_step, size-zero, size_below}
use Rattle.model.proofs.Lists.{values-append}

-- bit e of the group's word, where f are fixed and o open, with variables from v on: fixed, or open with a true variable
abbrev pub in_row : (ℕ → Bool) → ℕ → ℕ → ℕ → ℕ → Bool
in_row α f o v e = has f e || (has o e && α (v + size (o % 2 ^ e)))

unfoldable pub row_word : (ℕ → Bool) → ℕ → ℕ → ℕ → ℕ → ℕ
row_word α n f o v = word_where (in_row α f o v) n

-- ---- the values of the open entrants, entrant by entrant and digit by digit

pub open_each : (n o w : ℕ) → open_values n o w ≡ flat_map (λ e. cond (has o e) (has w e ∷ []) []) (range 0 n)
unfolding open_values
open_each n o w = go (range 0 n)
  where
    go : (es : List ℕ) → map (has w) (those (has o) es) ≡ flat_map (λ e. cond (has o e) (has w e ∷ []) []) es
    go [] = refl
    go (e ∷ es) = one (has o e) (go es)
      where
        one : (b : Bool) → map (has w) (those (has o) es) ≡ flat_map (λ e. cond (has o e) (has w e ∷ []) []) es
            → map (has w) (elim b [ true ↦ e ∷ those (has o) es | false ↦ those (has o) es ]) ≡ cond b (has w e ∷ []) [] ++ flat_map (λ e. cond (has o e) (has w e ∷ []) []) es
        one true ih = ap (λ (xs : List Bool). has w e ∷ xs) ih
        one false ih = ih

abbrev put_value : ℕ → ℕ → List Bool → List Bool
put_value zero w xs = xs
put_value (suc o) w xs = eqb w 1 ∷ xs

open_step : (n o w : ℕ) → open_values (suc n) o w ≡ put_value (o % 2) (w % 2) (open_values n (o / 2) (w / 2))
open_step n o w =
    open_each (suc n) o w
    ∙ ap₂ (λ (a b : List Bool). a ++ b) (ap₂ (λ (a b : Bool). cond a (b ∷ []) []) (has_first o) (has_first w))
    (each_next (λ e. cond (has o e) (has w e ∷ []) []) (λ e. cond (has (o / 2) e) (has (w / 2) e ∷ []) []) 0 0 n
    (λ e. ap₂ (λ (a b : Bool). cond a (b ∷ []) []) (has-next o e) (has-next w e)))
    ∙ ap (λ (xs : List Bool). cond (eqb (o % 2) 1) (eqb (w % 2) 1 ∷ []) [] ++ xs) (sym (open_each n (o / 2) (w / 2)))
    ∙ put (o % 2) (omega arith) (open_values n (o / 2) (w / 2))
  where
    each_next : (f g : ℕ → List Bool) (i j k : ℕ) → ((e : ℕ) → f (suc e) ≡ g e) → flat_map f (range (suc j) k) ≡ flat_map g (range j k)
    each_next f g i j zero h = refl
    each_next f g i j (suc k) h = ap₂ (λ (a b : List Bool). a ++ b) (h j) (each_next f g i (suc j) k h)

    put : (b : ℕ) → b ≤ 1 → (xs : List Bool) → cond (eqb b 1) (eqb (w % 2) 1 ∷ []) [] ++ xs ≡ put_value b (w % 2) xs
    put zero l xs = refl
    put (suc zero) l xs = refl
    put (suc (suc b)) l xs = absurd (omega arith)

-- no entrant is both fixed and open
pub record Apart (f o : ℕ) : Type 0 where
  pub bits : (e : ℕ) → bit e f + bit e o ≤ 1

-- w holds the fixed entrants and otherwise open ones only
pub record Holding (f o w : ℕ) : Type 0 where
  pub low : (e : ℕ) → bit e f ≤ bit e w
  pub high : (e : ℕ) → bit e w ≤ bit e f + bit e o

apart-first : (f o : ℕ) → Apart f o → f % 2 + o % 2 ≤ 1
apart-first f o a = omega (arith, a.bits 0, bit-first f, bit-first o)

apart_next : (f o : ℕ) → Apart f o → Apart (f / 2) (o / 2)
apart_next f o a = record { bits = λ e. omega (arith, a.bits (suc e), bit-next e f, bit-next e o) }

holding_next : (f o w : ℕ) → Holding f o w → Holding (f / 2) (o / 2) (w / 2)
holding_next f o w h = record {
  low = λ e. omega (arith, h.low (suc e), bit-next e f, bit-next e w);
  high = λ e. omega (arith, h.high (suc e), bit-next e f, bit-next e o, bit-next e w);
}

-- the value of a bit that is fixed or open
abbrev digit : ℕ → ℕ → Bool → ℕ
digit f o b = cond (eqb f 1 || (eqb o 1 && b)) 1 0

-- the three cases of a digit: neither, open, fixed
by_digit : (P : ℕ → ℕ → Type 0) → P 0 0 → P 0 1 → P 1 0 → (f o : ℕ) → f + o ≤ 1 → P f o
by_digit P a b c zero zero h = a
by_digit P a b c zero (suc zero) h = b
by_digit P a b c zero (suc (suc o)) h = absurd (omega arith)
by_digit P a b c (suc zero) zero h = c
by_digit P a b c (suc zero) (suc o) h = absurd (omega arith)
by_digit P a b c (suc (suc f)) o h = absurd (omega arith)

module _ (α : ℕ → Bool) where
  row_step : (n f o v : ℕ) → row_word α (suc n) f o v ≡ digit (f % 2) (o % 2) (α v) + 2 * row_word α n (f / 2) (o / 2) (v + o % 2)
  unfolding row_word
  row_step n f o v =
      word_first (in_row α f o v) n
      ∙ ap₂ (λ (x y : ℕ). x + 2 * y)
      (ap (λ (b : Bool). cond b 1 0) (ap₂ (λ (x y : Bool). x || y) (has_first f) (ap₂ (λ (x y : Bool). x && y) (has_first o) (ap α first))))
      (word_ext (λ e. in_row α f o v (suc e)) (in_row α (f / 2) (o / 2) (v + o % 2)) n
      (λ e l. ap₂ (λ (x y : Bool). x || y) (has-next f e) (ap₂ (λ (x y : Bool). x && y) (has-next o e) (ap α (next e)))))
    where
      first : v + size (o % 2 ^ 0) ≡ v
      first = let z : o % 2 ^ 0 ≡ 0 = omega arith in rw (z, size-zero) (add-zero v)

      next : (e : ℕ) → v + size (o % 2 ^ suc e) ≡ v + o % 2 + size (o / 2 % 2 ^ e)
      next e = rw (size_below e o) (sym (add_assoc v (o % 2) (size (o / 2 % 2 ^ e))))

  digit-le : (f o : ℕ) (b : Bool) → digit f o b ≤ 1
  digit-le f o b = go (eqb f 1 || (eqb o 1 && b))
    where
      go : (x : Bool) → cond x 1 0 ≤ 1
      go true = omega arith
      go false = omega arith

  row_first : (n f o v : ℕ) → row_word α (suc n) f o v % 2 ≡ digit (f % 2) (o % 2) (α v)
  row_first n f o v = rw (row_step n f o v) (omega (arith, digit-le (f % 2) (o % 2) (α v)))

  row-half : (n f o v : ℕ) → row_word α (suc n) f o v / 2 ≡ row_word α n (f / 2) (o / 2) (v + o % 2)
  row-half n f o v = rw (row_step n f o v) (omega (arith, digit-le (f % 2) (o % 2) (α v)))

  row_zero : (f o v : ℕ) → row_word α 0 f o v ≡ 0
  unfolding row_word word_where
  row_zero f o v = refl

  -- the number of entrants: the fixed ones and the true variables
  pub row-size : (n f o v : ℕ) → f < 2 ^ n → o < 2 ^ n → Apart f o
      → size (row_word α n f o v) ≡ size f + count (map α (range v (size o)))
  row-size zero f o v hf ho a =
      let p : f ≡ 0 = omega arith in
      let q : o ≡ 0 = omega arith in
      rw (row_zero f o v, p, q, size-zero)
  row-size (suc n) f o v hf ho a =
      size_step (row_word α (suc n) f o v)
      ∙ ap₂ (λ (x y : ℕ). x + size y) (row_first n f o v) (row-half n f o v)
      ∙ ap (λ (y : ℕ). digit (f % 2) (o % 2) (α v) + y) (row-size n (f / 2) (o / 2) (v + o % 2) (omega arith) (omega arith) (apart_next f o a))
      ∙ by_digit (λ x y. digit x y (α v) + (size (f / 2) + count (map α (range (v + y) (size (o / 2))))) ≡ x + size (f / 2) + count (map α (range v (y + size (o / 2)))))
      (rw (add-zero v, zero-add (size (o / 2))) (omega arith))
      (rw (values-append α v 1 (size (o / 2))) (one (α v)))
      (rw (add-zero v, zero-add (size (o / 2))) (omega arith))
      (f % 2) (o % 2) (apart-first f o a)
      ∙ ap₂ (λ (x y : ℕ). x + count (map α (range v y))) (sym (size_step f)) (sym (size_step o))
    where
      one : (b : Bool) → cond b 1 0 + (size (f / 2) + count (map α (range (v + 1) (size (o / 2))))) ≡ 0 + size (f / 2) + count (b ∷ map α (range (v + 1) (size (o / 2))))
      one true = omega arith
      one false = omega arith

  -- the values are read off the word
  pub row-values : (n f o v : ℕ) → o < 2 ^ n → Apart f o → open_values n o (row_word α n f o v) ≡ map α (range v (size o))
  row-values zero f o v ho a = let q : o ≡ 0 = omega arith in rw (q, size-zero) (unfold open_values in refl)
  row-values (suc n) f o v ho a =
      open_step n o (row_word α (suc n) f o v)
      ∙ ap₂ (λ (x y : ℕ). put_value (o % 2) x (open_values n (o / 2) y)) (row_first n f o v) (row-half n f o v)
      ∙ ap (put_value (o % 2) (digit (f % 2) (o % 2) (α v))) (row-values n (f / 2) (o / 2) (v + o % 2) (omega arith) (apart_next f o a))
      ∙ by_digit (λ x y. put_value y (digit x y (α v)) (map α (range (v + y) (size (o / 2)))) ≡ map α (range v (y + size (o / 2))))
      (rw (add-zero v, zero-add (size (o / 2))))
      (rw (values-append α v 1 (size (o / 2))) (ap (λ (b : Bool). b ∷ map α (range (v + 1) (size (o / 2)))) (one (α v))))
      (rw (add-zero v, zero-add (size (o / 2))))
      (f % 2) (o % 2) (apart-first f o a)
      ∙ ap (λ (y : ℕ). map α (range v y)) (sym (size_step o))
    where
      one : (b : Bool) → eqb (cond b 1 0) 1 ≡ b
      one true = refl
      one false = refl

  -- and the word is given by the values
  pub row_of : (n f o v w : ℕ) → f < 2 ^ n → o < 2 ^ n → w < 2 ^ n → Apart f o → Holding f o w
      → map α (range v (size o)) ≡ open_values n o w → row_word α n f o v ≡ w
  row_of zero f o v w hf ho hw a h e = row_zero f o v ∙ omega arith
  row_of (suc n) f o v w hf ho hw a h e =
      let rest : (u : ℕ) → map α (range u (size (o / 2))) ≡ open_values n (o / 2) (w / 2) → row_word α n (f / 2) (o / 2) u ≡ w / 2 =
      λ u k. row_of n (f / 2) (o / 2) u (w / 2) (omega arith) (omega arith) (omega arith) (apart_next f o a) (holding_next f o w h) k in
      row_step n f o v
      ∙ by_digit (λ x y. x ≤ w % 2 → w % 2 ≤ x + y → map α (range v (y + size (o / 2))) ≡ put_value y (w % 2) (open_values n (o / 2) (w / 2))
      → digit x y (α v) + 2 * row_word α n (f / 2) (o / 2) (v + y) ≡ w)
      (λ l u k. closed-case 0 rest (omega arith) k)
      (λ l u k. open-case (w % 2) rest u refl (rw (values-append α v 1 (size (o / 2))) at k))
      (λ l u k. closed-case 1 rest (omega arith) k)
      (f % 2) (o % 2) (apart-first f o a) (omega (arith, h.low 0, bit-first f, bit-first w)) (omega (arith, h.high 0, bit-first f, bit-first o, bit-first w))
      (ap (λ (k : ℕ). map α (range v k)) (sym (size_step o)) ∙ e ∙ open_step n o w)
    where
      Rest : Type 0
      Rest = (u : ℕ) → map α (range u (size (o / 2))) ≡ open_values n (o / 2) (w / 2) → row_word α n (f / 2) (o / 2) u ≡ w / 2

      closed-case : (b : ℕ) → Rest → w % 2 ≡ b → map α (range v (0 + size (o / 2))) ≡ open_values n (o / 2) (w / 2)
          → b + 2 * row_word α n (f / 2) (o / 2) (v + 0) ≡ w
      closed-case b rest p k =
          rw (add-zero v) (omega (arith, rest v (ap (λ (i : ℕ). map α (range v i)) (sym (zero-add (size (o / 2)))) ∙ k)))

      open-case : (b : ℕ) → Rest → b ≤ 1 → w % 2 ≡ b → α v ∷ map α (range (v + 1) (size (o / 2))) ≡ eqb b 1 ∷ open_values n (o / 2) (w / 2)
          → cond (α v) 1 0 + 2 * row_word α n (f / 2) (o / 2) (v + 1) ≡ w
      open-case zero rest l p k = rw (head-eq_of_cons-eq k) (omega (arith, rest (v + 1) (tail-eq_of_cons-eq k)))
      open-case (suc zero) rest l p k = rw (head-eq_of_cons-eq k) (omega (arith, rest (v + 1) (tail-eq_of_cons-eq k)))
      open-case (suc (suc b)) rest l p k = absurd (omega arith)

  -- the word holds the fixed entrants and otherwise open ones only
  pub row-holding : (n f o v : ℕ) → f < 2 ^ n → Holding f o (row_word α n f o v)
  unfolding row_word
  row-holding n f o v hf = record { low = λ e. fst e (dec_lt e n); high = λ e. snd e (dec_lt e n) }
    where
      w : ℕ
      w = word_where (in_row α f o v) n

      fst : (e : ℕ) → Dec (e < n) → bit e f ≤ bit e w
      fst e (yes l) = go (has f e) refl
        where
          go : (b : Bool) → has f e ≡ b → bit e f ≤ bit e w
          go true p = omega (arith, one-has-bit, bit_le e f)
            where
              one-has-bit : bit e w ≡ 1
              one-has-bit = has_one w e (has_where (in_row α f o v) n e l ∙ ap (λ (x : Bool). x || (has o e && α (v + size (o % 2 ^ e)))) p)
          go false p = omega (arith, has-none f e p)
      fst e (no l) = omega (arith, bit_past n e f hf (omega arith))

      snd : (e : ℕ) → Dec (e < n) → bit e w ≤ bit e f + bit e o
      snd e (yes l) = go (has f e) refl (has o e) refl
        where
          go : (b : Bool) → has f e ≡ b → (c : Bool) → has o e ≡ c → bit e w ≤ bit e f + bit e o
          go true p c q = omega (arith, has_one f e p, bit_le e w)
          go false p true q = omega (arith, has_one o e q, bit_le e w)
          go false p false q =
              omega (arith, has-none w e (has_where (in_row α f o v) n e l ∙ ap₂ (λ (x y : Bool). x || (y && α (v + size (o % 2 ^ e)))) p q))
      snd e (no l) = omega (arith, bit_past n e w (where_lt (in_row α f o v) n) (omega arith))

pub open_length : (n o w : ℕ) → o < 2 ^ n → length (open_values n o w) ≡ size o
open_length zero o w h = let q : o ≡ 0 = omega arith in rw (q, size-zero) (unfold open_values in refl)
open_length (suc n) o w h = ap length (open_step n o w) ∙ go (o % 2) refl (open_length n (o / 2) (w / 2) (omega arith)) ∙ sym (size_step o)
  where
    go : (b : ℕ) → o % 2 ≡ b → length (open_values n (o / 2) (w / 2)) ≡ size (o / 2)
        → length (put_value b (w % 2) (open_values n (o / 2) (w / 2))) ≡ b + size (o / 2)
    go zero p ih = ih ∙ sym (zero-add (size (o / 2)))
    go (suc zero) p ih = omega (arith, ih)
    go (suc (suc b)) p ih = absurd (omega arith)
