-- Laws of decimal texts, digit by digit and four at a time, and of terms' texts. Assumes nothing.
use mathlib.Core.Path.{◌≡◌, ap, sym, ◌∙◌}
use mathlib.Core.List.{List, [], ◌∷◌, ◌++◌, append_assoc}
use Prim.Native.Nat.{ℕ, ◌+◌, ◌-◌, ◌*◌, ◌/◌, ◌%◌, ◌≤◌, ◌<◌}
use native.Mathlib.Omega.{arith}
use borrow.Author.Tests.{le-leb, lt-leb}
use lib.ListN.{length, replicate, length-append, length-replicate}
use Rattle.model.specs.declared.Literal.{Literal}
use Rattle.model.specs.declared.Literal.TheVariants.{Pos, Neg}
use Rattle.model.specs.declared.Term.{Term}
use Rattle.model.specs.declared.Term.TheVariants.{Open}
use Rattle.model.specs.Text.{decimal, field_text, literal_text}
use Rattle.text.specs.Put.{last_four, term_text}
use Rattle.encoding_laws.proofs.Decimal.{decimal-small, decimal-more}

abbrev digit : ℕ → List ℕ
digit v = (48 + v % 10) ∷ []

-- two, three and four digits, and four more

pub two_digits : (v : ℕ) → 10 ≤ v → v / 10 < 10 → decimal v ≡ digit (v / 10) ++ digit v
two_digits v h k = decimal-more v h ∙ ap (λ (l : List ℕ). l ++ digit v) (decimal-small (v / 10) k)

pub three-digits : (v : ℕ) → 10 ≤ v / 10 → v / 10 / 10 < 10 → decimal v ≡ (digit (v / 10 / 10) ++ digit (v / 10)) ++ digit v
three-digits v h k = decimal-more v (omega arith) ∙ ap (λ (l : List ℕ). l ++ digit v) (two_digits (v / 10) h k)

pub four-digits : (v : ℕ) → 1000 ≤ v → v < 10000 → decimal v ≡ last_four v
four-digits v h k = decimal-more v (omega arith) ∙ ap (λ (l : List ℕ). l ++ digit v) (three-digits (v / 10) (omega arith) (omega arith))

last-four : (v : ℕ) → last_four (v % 10000) ≡ last_four v
last-four v =
    let a : v % 10000 / 10 / 10 / 10 % 10 ≡ v / 10 / 10 / 10 % 10 = omega arith in
    let b : v % 10000 / 10 / 10 % 10 ≡ v / 10 / 10 % 10 = omega arith in
    let c : v % 10000 / 10 % 10 ≡ v / 10 % 10 = omega arith in
    let d : v % 10000 % 10 ≡ v % 10 = omega arith in
    rw (a, b, c, d)

pub more-digits : (v : ℕ) → 10000 ≤ v → decimal v ≡ decimal (v / 10000) ++ last_four (v % 10000)
more-digits v h =
    let e : v / 10 / 10 / 10 / 10 ≡ v / 10000 = omega arith in
    decimal-more v (omega arith)
    ∙ ap (λ (l : List ℕ). l ++ digit v) (decimal-more (v / 10) (omega arith)
    ∙ ap (λ (l : List ℕ). l ++ digit (v / 10)) (decimal-more (v / 10 / 10) (omega arith)
    ∙ ap (λ (l : List ℕ). l ++ digit (v / 10 / 10)) (decimal-more (v / 10 / 10 / 10) (omega arith)
    ∙ ap (λ (n : ℕ). decimal n ++ digit (v / 10 / 10 / 10)) e)))
    ∙ simp append_assoc (ap (λ (l : List ℕ). decimal (v / 10000) ++ l) (sym (last-four v)))

pub two-length : (v : ℕ) → 10 ≤ v → v / 10 < 10 → length (decimal v) ≡ 2
two-length v h k = ap length (two_digits v h k)

pub three-digits-length : (v : ℕ) → 10 ≤ v / 10 → v / 10 / 10 < 10 → length (decimal v) ≡ 3
three-digits-length v h k = ap length (three-digits v h k)

pub four-length : (v : ℕ) → 1000 ≤ v → v < 10000 → length (decimal v) ≡ 4
four-length v h k = ap length (four-digits v h k)

pub more-length : (v : ℕ) → 10000 ≤ v → length (decimal v) ≡ length (decimal (v / 10000)) + 4
more-length v h = ap length (more-digits v h) ∙ length-append (decimal (v / 10000)) (last_four (v % 10000))

-- ---- four digits at once, as `write_four` has them

-- the pairs of digits side by side, the tens of both, and the digits as the bytes of a word

pub high_is : (v : ℕ) → v < 10000 → v * 5243 / 524288 ≡ v / 100
high_is v h = omega arith

pub pairs_are : (v : ℕ) → v < 10000 → v * 65536 - v * 5243 / 524288 * 6553599 ≡ v / 100 + v % 100 * 65536
pairs_are v h = omega (arith, high_is v h)

abbrev tens : ℕ → ℕ
tens x = x % 16 + x / 65536 % 16 * 65536

pub tens_are : (h l : ℕ) → h < 100 → l < 100 → tens ((h + l * 65536) * 103 / 1024) ≡ h / 10 + l / 10 * 65536
tens_are h l p q =
    let a : h * 103 / 1024 ≡ h / 10 = omega arith in
    let b : l * 103 / 1024 ≡ l / 10 = omega arith in
    let x : (h + l * 65536) * 103 / 1024 ≡ h / 10 + l * 412 * 16 = omega (arith, a) in
    let low : (h / 10 + l * 412 * 16) % 16 ≡ h / 10 = omega arith in
    let high : (h / 10 + l * 412 * 16) / 65536 ≡ l / 10 = omega (arith, b) in
    let small : l / 10 % 16 ≡ l / 10 = omega arith in
    rw (x, low, high, small)

abbrev word : ℕ → ℕ
word v =
    let pairs = v * 65536 - v * 5243 / 524288 * 6553599 in
    pairs * 256 - tens (pairs * 103 / 1024) * 2559 + 808464432

digits_are : (h l : ℕ) → h < 100 → l < 100
    → (h + l * 65536) * 256 - (h / 10 + l / 10 * 65536) * 2559 + 808464432 ≡ (48 + h / 10) + (48 + h % 10) * 256 + (48 + l / 10) * 65536 + (48 + l % 10) * 16777216
digits_are h l p q = omega arith

word-is : (v : ℕ) → v < 10000 → word v ≡ (48 + v / 10 / 10 / 10 % 10) + (48 + v / 10 / 10 % 10) * 256 + (48 + v / 10 % 10) * 65536 + (48 + v % 10) * 16777216
word-is v h =
    let a : v / 100 / 10 ≡ v / 10 / 10 / 10 % 10 = omega arith in
    let b : v / 100 % 10 ≡ v / 10 / 10 % 10 = omega arith in
    let c : v % 100 / 10 ≡ v / 10 % 10 = omega arith in
    let d : v % 100 % 10 ≡ v % 10 = omega arith in
    rw (pairs_are v h, tens_are (v / 100) (v % 100) (omega arith) (omega arith))
    (digits_are (v / 100) (v % 100) (omega arith) (omega arith) ∙ rw (a, b, c, d))

bytes_are : (a b c d : ℕ) → a < 256 → b < 256 → c < 256 → d < 256 → {w : ℕ} → w ≡ a + b * 256 + c * 65536 + d * 16777216
    → (w % 256) ∷ (w / 256 % 256) ∷ (w / 65536 % 256) ∷ (w / 16777216) ∷ [] ≡ a ∷ b ∷ c ∷ d ∷ []
bytes_are a b c d p q r s {w} e =
    let i : w % 256 ≡ a = omega arith in
    let j : w / 256 ≡ b + (c + d * 256) * 256 = omega arith in
    let k : w / 65536 ≡ c + d * 256 = omega arith in
    let l : w / 16777216 ≡ d = omega arith in
    let m : (b + (c + d * 256) * 256) % 256 ≡ b = omega arith in
    let n : (c + d * 256) % 256 ≡ c = omega arith in
    rw (i, j, k, l, m, n)

pub word_bytes : (v : ℕ) → v < 10000 → (word v % 256) ∷ (word v / 256 % 256) ∷ (word v / 65536 % 256) ∷ (word v / 16777216) ∷ [] ≡ last_four v
word_bytes v h = bytes_are _ _ _ _ (omega arith) (omega arith) (omega arith) (omega arith) (word-is v h)

-- ---- fields

module _ (v : ℕ) where
  pub field-none : 4 < length (decimal v) → field_text v ≡ []
  unfolding field_text
  field-none h = rw (lt-leb (length (decimal v)) 4 h)

  pub field-some : length (decimal v) ≤ 4 → field_text v ≡ replicate (4 - length (decimal v)) 32 ++ decimal v
  unfolding field_text
  field-some h = rw (le-leb (length (decimal v)) 4 h)

  pub field-length : length (decimal v) ≤ 4 → length (field_text v) ≡ 4
  field-length h =
      ap length (field-some h)
      ∙ length-append (replicate (4 - length (decimal v)) 32) (decimal v)
      ∙ omega (arith, length-replicate {A = ℕ} (4 - length (decimal v)) 32)

-- ---- a term that is open

module _ {t : Term} {l : Literal} {v : ℕ} where
  pub pos-text : t ≡ Open l → l ≡ Pos v → term_text t ≡ decimal v ++ (32 ∷ [])
  unfolding literal_text
  pos-text e f = ap term_text (e ∙ ap Open f)

  pub neg-text : t ≡ Open l → l ≡ Neg v → term_text t ≡ ((45 ∷ []) ++ decimal v) ++ (32 ∷ [])
  unfolding literal_text
  neg-text e f = ap term_text (e ∙ ap Open f)

  pub pos-length : t ≡ Open l → l ≡ Pos v → length (term_text t) ≡ length (decimal v) + 1
  pos-length e f = ap length (pos-text e f) ∙ length-append (decimal v) (32 ∷ [])

  pub neg-length : t ≡ Open l → l ≡ Neg v → length (term_text t) ≡ length (decimal v) + 2
  neg-length e f = ap length (neg-text e f) ∙ length-append ((45 ∷ []) ++ decimal v) (32 ∷ []) ∙ omega arith
