-- Marks: a bit for each rule, 64 to a word.
use Rattle.std.specs.Prelude.{ℕ, zero, suc, ◌+◌, ◌-◌, ◌*◌, ◌/◌, ◌%◌, ◌^◌, ◌≤◌, ◌<◌, ◌≡◌, Bool, true, false, ◌||◌, List, length, get_or, set}
use Rattle.std.specs.Int.Bits.{bit_or}
use Rattle.model.specs.Words.{less, has}

-- whether i is marked
unfoldable pub marked : List ℕ → ℕ → Bool
marked ws i = has (get_or ws (i / 64) 0) (i % 64)

-- the words with i marked, and with i not marked
unfoldable pub with_mark : ℕ → List ℕ → List ℕ
with_mark i ws = set ws (i / 64) (bit_or (get_or ws (i / 64) 0) (2 ^ (i % 64)))

unfoldable pub without_mark : ℕ → List ℕ → List ℕ
without_mark i ws = set ws (i / 64) (less (get_or ws (i / 64) 0) (2 ^ (i % 64)))

-- from p on, the first mark below p + d; where there is none, p + d
unfoldable pub mark_within : ℕ → List ℕ → ℕ → ℕ
mark_within zero ws p = p
mark_within (suc d) ws p = elim (marked ws p) [ true ↦ p | false ↦ mark_within d ws (suc p) ]

-- from p on, the first of 256
unfoldable pub next_mark : List ℕ → ℕ → ℕ
next_mark ws p = mark_within (256 - p) ws p

-- no mark from p to below q
abbrev pub NoneFrom : List ℕ → ℕ → ℕ → Type 0
NoneFrom ws p q = (i : ℕ) → p ≤ i → i < q → marked ws i ≡ false

-- the marks of row g of an index, 256 to a row, besides those there
abbrev pub AddsRow : List ℕ → ℕ → List ℕ → List ℕ → Type 0
AddsRow index g ws us = (length us ≡ length ws) × ((j : ℕ) → j < 256 → marked us j ≡ (marked ws j || marked index (256 * g + j)))
