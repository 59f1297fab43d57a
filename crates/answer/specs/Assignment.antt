-- The text of an assignment: `v 1 -2 3 0`, on lines of at most 78 columns.
use Rattle.std.specs.Prelude.{ℕ, suc, ◌+◌, cond, List, [], ◌∷◌, ◌++◌, leb, length}
use Rattle.answer.specs.Values.{value_text}

-- the words: the values from variable v on, each after a space, then a closing 0
abbrev pub words_from : ℕ → List ℕ → List (List ℕ)
words_from v [] = (32 ∷ 48 ∷ []) ∷ []
words_from v (x ∷ xs) = value_text x v ∷ words_from (suc v) xs

-- a word where `column` columns of the line are taken: it begins a new line where this one would go past column 78
unfoldable pub word_text : ℕ → List ℕ → List ℕ
word_text column word = cond (leb (column + length word) 78) word ((10 ∷ 118 ∷ []) ++ word)

-- the columns that are taken after it
unfoldable pub column_after : ℕ → List ℕ → ℕ
column_after column word = cond (leb (column + length word) 78) (column + length word) (1 + length word)

-- word after word, and the last byte 10
abbrev pub wrapped : ℕ → List (List ℕ) → List ℕ
wrapped column [] = 10 ∷ []
wrapped column (w ∷ ws) = word_text column w ++ wrapped (column_after column w) ws

unfoldable pub assignment_text : List ℕ → List ℕ
assignment_text values = (118 ∷ []) ++ wrapped 1 (words_from 1 values)
