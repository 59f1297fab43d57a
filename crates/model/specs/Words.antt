-- "A draw gives each group a set of entrants". A set is a word: entrant e of document 01 is bit e - 1. No definition depends on a word's width.
use Rattle.std.specs.Prelude.{ℕ, zero, suc, ◌+◌, ◌-◌, ◌/◌, ◌%◌, ◌^◌, Bool, true, false, cond, eqb}
use Rattle.std.specs.Int.Bits.{bit_and, bit_xor}

-- the entrants 1..n
unfoldable pub full : ℕ → ℕ
full n = 2 ^ n - 1

-- a without b
unfoldable pub less : ℕ → ℕ → ℕ
less a b = bit_xor a (bit_and a b)

-- the number of entrants: the ones among a word's digits, of which there are no more than w
unfoldable pub size_in : ℕ → ℕ → ℕ
size_in zero w = 0
size_in (suc digits) w = elim (eqb w 0) [ true ↦ 0 | false ↦ w % 2 + size_in digits (w / 2) ]

unfoldable pub size : ℕ → ℕ
size w = size_in w w

-- a within b
unfoldable pub inside : ℕ → ℕ → Bool
inside a b = eqb (bit_and a b) a

-- bit e, and whether it is set
unfoldable pub bit : ℕ → ℕ → ℕ
bit e w = w / 2 ^ e % 2

unfoldable pub has : ℕ → ℕ → Bool
has w e = eqb (bit e w) 1

-- the word of the bits below n that pass a test
unfoldable pub word_where : (ℕ → Bool) → ℕ → ℕ
word_where p zero = 0
word_where p (suc e) = word_where p e + cond (p e) (2 ^ e) 0
