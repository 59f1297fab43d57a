-- Laws of words as sets, over every width: bits of each operation, inclusion and its orders, the number of ones. Bits are the numbers 0 and 1, so that
-- omega reasons about them. Assumes nothing.
use mathlib.Core.Path.{◌≡◌, refl, sym, ap, ap₂, ◌∙◌, subst}
use Prim.Native.Nat.{ℕ, zero, suc, ◌+◌, ◌-◌, ◌*◌, ◌/◌, ◌%◌, ◌^◌, ◌≤◌, ◌<◌, min, max}
use native.Mathlib.Nat.{le_refl, le_trans, le_antisymm, one-mul, mod-lt, div-add-mod', div-one, div-div-eq-div-mul, pow-succ'}
use native.Mathlib.Omega.{arith}
use native.Mathlib.Decide.{dec_lt}
use native.Mathlib.Numerals.{add-one}
use mathlib.Core.Bool.{Bool, true, false, cond, not, ◌&&◌, ◌||◌}
use borrow.Author.Tests.{eqb-true, eqb-false}
use lib.Dec.{T, eqb, eqb→eq, eqb_refl}
use lib.Arith.{bin_ind, digits_div, digits_mod}
use lib.Bits.{bit_and, bit_or, bit_xor, differ, and_step, or_step, xor_step}
use lib.Count.{ones, ones_step, ones-le}
use lib.Pow.{pow_pos, mod-pow-add, shl_exact}
use mathlib.Core.List.{List, [], ◌∷◌}
use Rattle.std.specs.List.{list_all, list_any}
use Rattle.model.specs.Lists.{total, range}
use Rattle.model.specs.Limits.{limits}
use Rattle.model.specs.Words.{full, less, size_in, size, inside, bit, has, word_where}
use Rattle.model.specs.Solution.{union}
use Rattle.model.proofs.Lists.{T-ext, every-range, range-every, All, all-imp}

-- ---- a bit

pub bit-first : (w : ℕ) → bit 0 w ≡ w % 2
unfolding bit
bit-first w = ap (λ (x : ℕ). x % 2) (div-one w)

pub bit-next : (e w : ℕ) → bit (suc e) w ≡ bit e (w / 2)
unfolding bit
bit-next e w = ap (λ (x : ℕ). x % 2) (ap (λ (x : ℕ). w / x) (pow-succ' 2 e) ∙ sym (div-div-eq-div-mul w 2 (2 ^ e)))

pub bit_le : (e w : ℕ) → bit e w ≤ 1
unfolding bit
bit_le e w = omega arith

pub bit-zero : (e : ℕ) → bit e 0 ≡ 0
bit-zero zero = bit-first 0
bit-zero (suc e) = bit-next e 0 ∙ bit-zero e

-- past its length a word has no members
pub bit_past : (k e w : ℕ) → w < 2 ^ k → k ≤ e → bit e w ≡ 0
bit_past zero e w h l = ap (bit e) (omega arith) ∙ bit-zero e
bit_past (suc k) zero w h l = omega arith
bit_past (suc k) (suc e) w h l = bit-next e w ∙ bit_past k e (w / 2) (omega arith) (omega arith)

-- ---- an operation that works digit by digit works bit by bit

module _ (op f : ℕ → ℕ → ℕ) (step : (a b : ℕ) → op a b ≡ op (a / 2) (b / 2) * 2 + f (a % 2) (b % 2))
    (small : (x y : ℕ) → x ≤ 1 → y ≤ 1 → f x y ≤ 1) where
  digit : (a b : ℕ) → f (a % 2) (b % 2) < 2
  digit a b = let h = small (a % 2) (b % 2) (omega arith) (omega arith) in omega arith

  op-bit : (e a b : ℕ) → bit e (op a b) ≡ f (bit e a) (bit e b)
  op-bit zero a b =
      bit-first (op a b)
      ∙ ap (λ (x : ℕ). x % 2) (step a b)
      ∙ digits_mod (op (a / 2) (b / 2)) (digit a b)
      ∙ sym (rw (bit-first a, bit-first b))
  op-bit (suc e) a b =
      bit-next e (op a b)
      ∙ ap (λ (x : ℕ). bit e (x / 2)) (step a b)
      ∙ ap (bit e) (digits_div (op (a / 2) (b / 2)) (digit a b))
      ∙ op-bit e (a / 2) (b / 2)
      ∙ sym (rw (bit-next e a, bit-next e b))

pub bit-and : (e a b : ℕ) → bit e (bit_and a b) ≡ min (bit e a) (bit e b)
bit-and = op-bit bit_and min and_step (λ x y hx hy. omega arith)

pub bit-or : (e a b : ℕ) → bit e (bit_or a b) ≡ max (bit e a) (bit e b)
bit-or = op-bit bit_or max or_step (λ x y hx hy. omega arith)

differ-is : (x y : ℕ) → differ x y ≡ (x - y) + (y - x)
differ-is zero y = omega arith
differ-is (suc x) zero = omega arith
differ-is (suc x) (suc y) = omega (arith, differ-is x y)

bit_xor_lem : (e a b : ℕ) → bit e (bit_xor a b) ≡ differ (bit e a) (bit e b)
bit_xor_lem = op-bit bit_xor differ xor_step (λ x y hx hy. omega (arith, differ-is x y))

pub bit-less : (e a b : ℕ) → bit e (less a b) ≡ bit e a - bit e b
unfolding less
bit-less e a b =
    omega (arith, bit_xor_lem e a (bit_and a b), bit-and e a b, differ-is (bit e a) (bit e (bit_and a b)), bit_le e a, bit_le e b)

-- every bit below n is set in `full n`, and no other
pub bit-full : (n e : ℕ) → e < n → bit e (full n) ≡ 1
unfolding full
bit-full zero e h = omega arith
bit-full (suc n) zero h = bit-first (2 ^ suc n - 1) ∙ omega (arith, pow_pos n)
bit-full (suc n) (suc e) h =
    bit-next e (2 ^ suc n - 1) ∙ ap (bit e) (omega (arith, pow_pos n)) ∙ bit-full n e (omega arith)

pub full-lt : (n : ℕ) → full n < 2 ^ n
unfolding full
full-lt n = omega (arith, pow_pos n)

-- what the code's `!b` gives at k digits, and `a & !b`
bit_not : (k e b : ℕ) → b < 2 ^ k → e < k → bit e (2 ^ k - 1 - b) ≡ 1 - bit e b
bit_not zero e b h l = omega arith
bit_not (suc k) zero b h l = rw (bit-first (2 ^ suc k - 1 - b), bit-first b) (omega (arith, pow_pos k))
bit_not (suc k) (suc e) b h l =
    rw (bit-next e (2 ^ suc k - 1 - b), bit-next e b)
    (ap (bit e) (omega (arith, pow_pos k)) ∙ bit_not k e (b / 2) (omega arith) (omega arith))

-- ---- words are equal when their bits are: no bound is needed

pub bit_ext : (a b : ℕ) → ((e : ℕ) → bit e a ≡ bit e b) → a ≡ b
bit_ext a =
    bin_ind (λ (n : ℕ). (b : ℕ) → ((e : ℕ) → bit e n ≡ bit e b) → n ≡ b)
    (λ b h. bin_ind (λ (m : ℕ). ((e : ℕ) → bit e 0 ≡ bit e m) → 0 ≡ m) (λ h₁. refl)
    (λ m ih h₁. omega (arith, first 0 m (h₁ 0), ih (λ e. next e 0 m (h₁ (suc e))), div-add-mod' m 2)) b h)
    (λ n ih b h. omega (arith, first n b (h 0), ih (b / 2) (λ e. next e n b (h (suc e))), div-add-mod' n 2, div-add-mod' b 2)) a
  where
    first : (a b : ℕ) → bit 0 a ≡ bit 0 b → a % 2 ≡ b % 2
    first a b h = sym (bit-first a) ∙ h ∙ bit-first b

    next : (e a b : ℕ) → bit (suc e) a ≡ bit (suc e) b → bit e (a / 2) ≡ bit e (b / 2)
    next e a b h = sym (bit-next e a) ∙ h ∙ bit-next e b

pub and-not : (k a b : ℕ) → a < 2 ^ k → b < 2 ^ k → bit_and a (2 ^ k - 1 - b) ≡ less a b
and-not k a b ha hb = bit_ext (bit_and a (2 ^ k - 1 - b)) (less a b) (λ e. go e (dec_lt e k))
  where
    go : (e : ℕ) → Dec (e < k) → bit e (bit_and a (2 ^ k - 1 - b)) ≡ bit e (less a b)
    go e (yes l) = omega (arith, bit-and e a (2 ^ k - 1 - b), bit-less e a b, bit_not k e b hb l, bit_le e a, bit_le e b)
    go e (no f) = omega (arith, bit-and e a (2 ^ k - 1 - b), bit-less e a b, bit_past k e a ha (omega arith))

-- ---- inclusion, bit by bit

pub record Sub (a b : ℕ) : Type 0 where
  pub at : (e : ℕ) → bit e a ≤ bit e b

pub sub_refl : (a : ℕ) → Sub a a
sub_refl a = record { at = λ e. le_refl (bit e a) }

pub sub_trans : {a b c : ℕ} → Sub a b → Sub b c → Sub a c
sub_trans p q = record { at = λ e. le_trans (p.at e) (q.at e) }

pub sub_antisym : {a b : ℕ} → Sub a b → Sub b a → a ≡ b
sub_antisym {a} {b} p q = bit_ext a b (λ e. le_antisymm (p.at e) (q.at e))

pub sub-or_l : (a b : ℕ) → Sub a (bit_or a b)
sub-or_l a b = record { at = λ e. omega (arith, bit-or e a b) }

pub sub-or-r : (a b : ℕ) → Sub b (bit_or a b)
sub-or-r a b = record { at = λ e. omega (arith, bit-or e a b) }

pub sub-or : {a b c : ℕ} → Sub a c → Sub b c → Sub (bit_or a b) c
sub-or {a} {b} p q = record { at = λ e. omega (arith, bit-or e a b, p.at e, q.at e) }

pub sub-and_l : (a b : ℕ) → Sub (bit_and a b) a
sub-and_l a b = record { at = λ e. omega (arith, bit-and e a b) }

pub sub-and-r : (a b : ℕ) → Sub (bit_and a b) b
sub-and-r a b = record { at = λ e. omega (arith, bit-and e a b) }

pub sub-and : {a b c : ℕ} → Sub c a → Sub c b → Sub c (bit_and a b)
sub-and {a} {b} p q = record { at = λ e. omega (arith, bit-and e a b, p.at e, q.at e) }

pub sub-less : (a b : ℕ) → Sub (less a b) a
sub-less a b = record { at = λ e. omega (arith, bit-less e a b) }

-- the test `inside` is inclusion
pub inside-sub : (a b : ℕ) → T (inside a b) → Sub a b
unfolding inside
inside-sub a b t = subst (λ (x : ℕ). Sub x b) (eqb→eq (bit_and a b) a t) (sub-and-r a b)

pub sub-inside : (a b : ℕ) → Sub a b → T (inside a b)
unfolding inside
sub-inside a b s = rw (sub_antisym (sub-and_l a b) (sub-and (sub_refl a) s)) (eqb_refl a)

-- a set within one of few digits has few digits
pub sub-le : {a b : ℕ} → Sub a b → a ≤ b
sub-le {a} {b} s = subst (λ (x : ℕ). x ≤ b) (eqb→eq (bit_and a b) a (unfold inside in sub-inside a b s)) (lib.Bits.and_le_r a b)

-- ---- the number of ones

size_in_lem : (d w : ℕ) → w ≤ d → size_in d w ≡ ones w
unfolding size_in ones
size_in_lem zero w h = let z : w ≡ 0 = omega arith in rw z
size_in_lem (suc d) w h = go (eqb w 0) refl (size_in_lem d (w / 2))
  where
    go : (b : Bool) → eqb w 0 ≡ b → (w / 2 ≤ d → size_in d (w / 2) ≡ ones (w / 2)) → size_in (suc d) w ≡ ones w
    go true e ih = rw (e, size_in) (ap ones (sym (eqb-true w 0 e)))
    go false e ih = rw (e, size_in) (ap (λ (x : ℕ). w % 2 + x) (ih (omega (arith, eqb-false w 0 e))) ∙ sym (ones_step w))

pub size-ones : (w : ℕ) → size w ≡ ones w
unfolding size
size-ones w = size_in_lem w w (le_refl w)

pub size_step : (w : ℕ) → size w ≡ w % 2 + size (w / 2)
size_step w = size-ones w ∙ ones_step w ∙ ap (λ (x : ℕ). w % 2 + x) (sym (size-ones (w / 2)))

pub size-zero : size 0 ≡ 0
unfolding size size_in
size-zero = refl

pub size-le : (n w : ℕ) → w < 2 ^ n → size w ≤ n
size-le n w h = rw (size-ones w) (ones-le n w h)

low : {a b : ℕ} → Sub a b → a % 2 ≤ b % 2
low {a} {b} s = omega (arith, s.at 0, bit-first a, bit-first b)

high : {a b : ℕ} → Sub a b → Sub (a / 2) (b / 2)
high {a} {b} s = record { at = λ e. omega (arith, s.at (suc e), bit-next e a, bit-next e b) }

pub size_mono : {a b : ℕ} → Sub a b → size a ≤ size b
size_mono {a} {b} s =
    bin_ind (λ (n : ℕ). (b : ℕ) → Sub n b → size n ≤ size b)
    (λ b h. omega (arith, size-zero))
    (λ n ih b h. omega (arith, size_step n, size_step b, low h, ih (b / 2) (high h))) a b s

-- one set in another with as many members is the same set
pub size-eq : {a b : ℕ} → Sub a b → size b ≤ size a → a ≡ b
size-eq {a} {b} s l =
    bin_ind (λ (n : ℕ). (b : ℕ) → Sub n b → size b ≤ size n → n ≡ b) base
    (λ n ih b h c.
    let m = size_mono (high h) in
    omega (
      arith,
      low h,
      size_step n,
      size_step b,
      div-add-mod' n 2,
      div-add-mod' b 2,
      ih (b / 2) (high h) (omega (arith, size_step n, size_step b, low h)),
    )) a b s l
  where
    base : (b : ℕ) → Sub 0 b → size b ≤ size 0 → 0 ≡ b
    base = bin_ind (λ (b : ℕ). Sub 0 b → size b ≤ size 0 → 0 ≡ b) (λ h c. refl)
        (λ n ih h c. omega (arith, size-zero, size_step n, div-add-mod' n 2, ih (high h) (omega (arith, size_step n))))

-- a set in two parts: those of a in b, and those not
pub size_less : (a b : ℕ) → Sub b a → size (less a b) + size b ≡ size a
size_less a b s = size-apart (less a b) b a
    (λ e. omega (arith, bit-less e a b, s.at e, bit_le e a))
  where
    size-apart : (x y z : ℕ) → ((e : ℕ) → bit e x + bit e y ≡ bit e z) → size x + size y ≡ size z
    size-apart x y z = bin_ind (λ (z : ℕ). (x y : ℕ) → ((e : ℕ) → bit e x + bit e y ≡ bit e z) → size x + size y ≡ size z)
        (λ x y h. let p : x ≡ 0 = bit_ext x 0 (λ e. omega (arith, h e, bit-zero e)) in
        let q : y ≡ 0 = bit_ext y 0 (λ e. omega (arith, h e, bit-zero e)) in
        rw (p, q) (omega (arith, size-zero)))
        (λ z ih x y h. omega (
          arith,
          size_step x,
          size_step y,
          size_step z,
          h 0,
          bit-first x,
          bit-first y,
          bit-first z,
          ih (x / 2) (y / 2) (λ e. omega (arith, h (suc e), bit-next e x, bit-next e y, bit-next e z)),
        )) z x y

-- ---- membership as a test

pub bit-has : (e w : ℕ) → bit e w ≡ cond (has w e) 1 0
unfolding has
bit-has e w = go (eqb (bit e w) 1) refl
  where
    go : (b : Bool) → eqb (bit e w) 1 ≡ b → bit e w ≡ cond b 1 0
    go true q = eqb-true (bit e w) 1 q
    go false q = omega (arith, bit_le e w, eqb-false (bit e w) 1 q)

pub has-bit : (e w : ℕ) (x : Bool) → bit e w ≡ cond x 1 0 → has w e ≡ x
unfolding has
has-bit e w true h = rw h
has-bit e w false h = rw h

pub has-zero : (e : ℕ) → has 0 e ≡ false
has-zero e = has-bit e 0 false (bit-zero e)

pub has-and : (a b e : ℕ) → has (bit_and a b) e ≡ (has a e && has b e)
has-and a b e =
    has-bit e (bit_and a b) (has a e && has b e) (bit-and e a b ∙ rw (bit-has e a, bit-has e b) (table (has a e) (has b e)))
  where
    table : (x y : Bool) → min (cond x 1 0) (cond y 1 0) ≡ cond (x && y) 1 0
    table true true = refl
    table true false = refl
    table false true = refl
    table false false = refl

pub has-or : (a b e : ℕ) → has (bit_or a b) e ≡ (has a e || has b e)
has-or a b e =
    has-bit e (bit_or a b) (has a e || has b e) (bit-or e a b ∙ rw (bit-has e a, bit-has e b) (table (has a e) (has b e)))
  where
    table : (x y : Bool) → max (cond x 1 0) (cond y 1 0) ≡ cond (x || y) 1 0
    table true true = refl
    table true false = refl
    table false true = refl
    table false false = refl

pub has-less : (a b e : ℕ) → has (less a b) e ≡ (has a e && not (has b e))
has-less a b e =
    has-bit e (less a b) (has a e && not (has b e)) (bit-less e a b ∙ rw (bit-has e a, bit-has e b) (table (has a e) (has b e)))
  where
    table : (x y : Bool) → cond x 1 0 - cond y 1 0 ≡ cond (x && not y) 1 0
    table true true = refl
    table true false = refl
    table false true = refl
    table false false = refl

-- a word below 2 ^ n has no member past n
pub has-past : (n w e : ℕ) → w < 2 ^ n → n ≤ e → has w e ≡ false
has-past n w e h l = has-bit e w false (bit_past n e w h l)

pub has_ext : (a b : ℕ) → ((e : ℕ) → has a e ≡ has b e) → a ≡ b
has_ext a b h = bit_ext a b (λ e. bit-has e a ∙ ap (λ (x : Bool). cond x 1 0) (h e) ∙ sym (bit-has e b))

pub has_sub : (a b : ℕ) → ((e : ℕ) → T (has a e) → T (has b e)) → Sub a b
has_sub a b h = record { at = λ e. rw (bit-has e a, bit-has e b) (table (has a e) (has b e) (h e)) }
  where
    table : (x y : Bool) → (T x → T y) → cond x 1 0 ≤ cond y 1 0
    table true true f = le_refl 1
    table true false f = absurd (f tt)
    table false true f = omega arith
    table false false f = le_refl 0

pub sub-has : (a b : ℕ) → Sub a b → (e : ℕ) → T (has a e) → T (has b e)
sub-has a b s e = table (has a e) (has b e) (rw (bit-has e a, bit-has e b) at (s.at e))
  where
    table : (x y : Bool) → cond x 1 0 ≤ cond y 1 0 → T x → T y
    table true true l t = tt
    table true false l t = absurd (omega arith)
    table false true l t = tt
    table false false l t = t

-- ---- the word of the bits below n that pass a test

pub where_lt : (p : ℕ → Bool) (n : ℕ) → word_where p n < 2 ^ n
unfolding word_where
where_lt p zero = omega arith
where_lt p (suc n) = go (p n) (where_lt p n)
  where
    go : (b : Bool) → word_where p n < 2 ^ n → word_where p n + cond b (2 ^ n) 0 < 2 ^ suc n
    go true h = omega arith
    go false h = omega arith

bit_below : (n e a : ℕ) → a < 2 ^ n → e < n → bit e (a + 2 ^ n) ≡ bit e a
bit_below zero e a h l = omega arith
bit_below (suc n) zero a h l = rw (bit-first (a + 2 ^ suc n), bit-first a) (omega arith)
bit_below (suc n) (suc e) a h l =
    rw (bit-next e (a + 2 ^ suc n), bit-next e a) (ap (bit e) (omega arith) ∙ bit_below n e (a / 2) (omega arith) (omega arith))

bit-top : (n a : ℕ) → a < 2 ^ n → bit n (a + 2 ^ n) ≡ 1
bit-top zero a h = rw (bit-first (a + 2 ^ 0)) (omega arith)
bit-top (suc n) a h = rw (bit-next n (a + 2 ^ suc n)) (ap (bit n) (omega arith) ∙ bit-top n (a / 2) (omega arith))

pub has_where : (p : ℕ → Bool) (n e : ℕ) → e < n → has (word_where p n) e ≡ p e
unfolding word_where
has_where p zero e l = absurd (omega arith)
has_where p (suc n) e l = go (dec_lt e n) (p n) refl (has_where p n e)
  where
    w : ℕ
    w = word_where p n

    go : Dec (e < n) → (b : Bool) → p n ≡ b → (e < n → has w e ≡ p e) → has (w + cond b (2 ^ n) 0) e ≡ p e
    go (yes k) true q ih = has-bit e (w + 2 ^ n) (p e) (bit_below n e w (where_lt p n) k ∙ bit-has e w ∙ ap (λ (b : Bool). cond b 1 0) (ih k))
    go (yes k) false q ih = ap (λ (x : ℕ). has x e) (native.Mathlib.Nat.add-zero w) ∙ ih k
    go (no f) true q ih =
        let i : e ≡ n = omega arith in
        rw i (has-bit n (w + 2 ^ n) (p n) (bit-top n w (where_lt p n) ∙ sym (ap (λ (b : Bool). cond b 1 0) q)))
    go (no f) false q ih =
        let i : e ≡ n = omega arith in
        rw (i, native.Mathlib.Nat.add-zero w, q) (has-past n w n (where_lt p n) (le_refl n))

pub where_sub : (p q : ℕ → Bool) (n : ℕ) → ((e : ℕ) → T (p e) → T (q e)) → Sub (word_where p n) (word_where q n)
where_sub p q n h = has_sub (word_where p n) (word_where q n) (λ e. go e (dec_lt e n))
  where
    go : (e : ℕ) → Dec (e < n) → T (has (word_where p n) e) → T (has (word_where q n) e)
    go e (yes l) t = rw (has_where q n e l) (h e (rw (has_where p n e l) at t))
    go e (no f) t = absurd (rw (has-past n (word_where p n) e (where_lt p n) (omega arith)) at t)

-- ---- more of bits and words

pub has_one : (w e : ℕ) → has w e ≡ true → bit e w ≡ 1
unfolding has
has_one w e h = eqb-true (bit e w) 1 h

pub has-none : (w e : ℕ) → has w e ≡ false → bit e w ≡ 0
unfolding has
has-none w e h = let k = eqb-false (bit e w) 1 h in omega (arith, bit_le e w)

pub one_has : (w e : ℕ) → bit e w ≡ 1 → has w e ≡ true
unfolding has
one_has w e h = rw h

pub has_first : (w : ℕ) → has w 0 ≡ eqb (w % 2) 1
unfolding has
has_first w = rw (bit-first w)

pub has-next : (w e : ℕ) → has w (suc e) ≡ has (w / 2) e
unfolding has
has-next w e = rw (bit-next e w)

pub word_first : (p : ℕ → Bool) (n : ℕ) → word_where p (suc n) ≡ cond (p 0) 1 0 + 2 * word_where (λ e. p (suc e)) n
unfolding word_where
word_first p zero = go (p 0)
  where
    go : (b : Bool) → 0 + cond b (2 ^ 0) 0 ≡ cond b 1 0 + 2 * 0
    go true = refl
    go false = refl
word_first p (suc n) = go (p (suc n)) (word_first p n)
  where
    shifted : (d x y z : ℕ) → word_where p (suc n) ≡ d + 2 * x → y ≡ 2 * z → word_where p (suc n) + y ≡ d + 2 * (x + z)
    shifted d x y z h k = rw h (omega arith)

    go : (b : Bool) → word_where p (suc n) ≡ cond (p 0) 1 0 + 2 * word_where (λ e. p (suc e)) n
        → word_where p (suc n) + cond b (2 ^ suc n) 0 ≡ cond (p 0) 1 0 + 2 * (word_where (λ e. p (suc e)) n + cond b (2 ^ n) 0)
    go true ih = shifted (cond (p 0) 1 0) (word_where (λ e. p (suc e)) n) (2 ^ suc n) (2 ^ n) ih (omega arith)
    go false ih = shifted (cond (p 0) 1 0) (word_where (λ e. p (suc e)) n) 0 0 ih refl

pub word_ext : (p q : ℕ → Bool) (n : ℕ) → ((e : ℕ) → e < n → p e ≡ q e) → word_where p n ≡ word_where q n
unfolding word_where
word_ext p q zero h = refl
word_ext p q (suc n) h =
    ap₂ (λ (x y : ℕ). x + y) (word_ext p q n (λ e l. h e (omega arith))) (ap (λ (b : Bool). cond b (2 ^ n) 0) (h n (omega arith)))

-- a within b, entrant by entrant, where a has none past n
pub inside-words : (n a b : ℕ) → a < 2 ^ n → inside a b ≡ list_all (λ e. not (has a e) || has b e) (range 0 n)
inside-words n a b small =
    T-ext (inside a b) (list_all (λ e. not (has a e) || has b e) (range 0 n))
    (λ t. range-every (λ e. not (has a e) || has b e) 0 n (λ e _ _. to e (has a e) refl (sub-has a b (inside-sub a b t) e)))
    (λ t. sub-inside a b (has_sub a b (λ e h. from t e h (dec_lt e n))))
  where
    to : (e : ℕ) (x : Bool) → has a e ≡ x → (T (has a e) → T (has b e)) → T (not x || has b e)
    to e true p f = f (subst T (sym p) tt)
    to e false p f = tt

    here : (e : ℕ) (x : Bool) → has a e ≡ x → T x → T (not x || has b e) → T (has b e)
    here e true p h t = t
    here e false p h t = absurd h

    from : T (list_all (λ e. not (has a e) || has b e) (range 0 n)) → (e : ℕ) → T (has a e) → Dec (e < n) → T (has b e)
    from t e h (yes l) = here e (has a e) refl h (every-range (λ e. not (has a e) || has b e) 0 n t e (omega arith) (omega arith))
    from t e h (no l) = absurd (subst T (has-past n a e small (omega arith)) h)

-- ---- the union

pub has-union : (ws : List ℕ) (e : ℕ) → has (union ws) e ≡ list_any (λ w. has w e) ws
unfolding union
has-union [] e = has-zero e
has-union (w ∷ ws) e = has-or w (union ws) e ∙ ap (λ b. has w e || b) (has-union ws e)

-- a union has each of its sets, and at most as many members as they have together
pub union-sub : (ws : List ℕ) → All (λ w. Sub w (union ws)) ws
unfolding union
union-sub [] = tt
union-sub (w ∷ ws) =
    (sub-or_l w (union ws), all-imp (λ x. Sub x (union ws)) (λ x. Sub x (bit_or w (union ws))) (λ x s. sub_trans s (sub-or-r w (union ws))) ws (union-sub ws))

pub size-or : (a b : ℕ) → size (bit_or a b) ≤ size a + size b
size-or a b =
    let s : Sub (less (bit_or a b) b) a = record { at = λ e. omega (arith, bit-less e (bit_or a b) b, bit-or e a b) } in
    let l : size (less (bit_or a b) b) ≤ size a = size_mono s in
    omega (arith, size_less (bit_or a b) b (sub-or-r a b))

pub size-union : (ws : List ℕ) → size (union ws) ≤ total size ws
unfolding union
size-union [] = omega (arith, size-zero)
size-union (w ∷ ws) = omega (arith, size-or w (union ws), size-union ws)

-- ---- the code's words

-- `1 << e` is 2 to the e
pub shifted : (e : ℕ) → e < limits.word → 1 * 2 ^ e % 2 ^ limits.word ≡ 2 ^ e
shifted e h = shl_exact 1 e limits.word (omega arith) (omega arith) ∙ one-mul (2 ^ e)

-- the entrants 1..n, of which there are no more than a word has bits
pub entrants-full : (n : ℕ) → n ≤ limits.word → full (min n limits.word) ≡ full n
entrants-full n h = ap full (omega arith)

-- ---- the ones below a bit

-- there are no more than e of them, where d is 2 to the e
pub below-few : (w e d : ℕ) → d ≡ 2 ^ e → ones (w % d) ≤ e
below-few w e d q = rw q (ones-le e (w % 2 ^ e) (mod-lt w (pow_pos e)))

pub size_below : (e w : ℕ) → size (w % 2 ^ suc e) ≡ w % 2 + size (w / 2 % 2 ^ e)
size_below e w =
    let d : w % 2 ^ suc e ≡ (w / 2 % 2 ^ e) * 2 + w % 2 = subst (λ (k : ℕ). w % 2 ^ k ≡ (w / 2 % 2 ^ e) * 2 + w % 2) (add-one e) (mod-pow-add w e 1) in
    size_step (w % 2 ^ suc e)
    ∙ ap₂ (λ (x y : ℕ). x + size y) (ap (λ (x : ℕ). x % 2) d ∙ omega arith) (ap (λ (x : ℕ). x / 2) d ∙ omega arith)

-- a set bit is not counted below itself

-- a set bit is not counted below itself
pub size-below-lt : (e w : ℕ) → bit e w ≡ 1 → size (w % 2 ^ e) < size w
size-below-lt zero w h =
    let z : w % 2 ^ 0 ≡ 0 = omega arith in
    rw z (omega (arith, size-zero, size_step w, bit-first w))
size-below-lt (suc e) w h = omega (arith, size_below e w, size_step w, size-below-lt e (w / 2) (sym (bit-next e w) ∙ h))
