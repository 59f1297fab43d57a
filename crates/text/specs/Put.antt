-- What a writer does to a buffer: a text at a place, where there is room for it, and nothing else. Assumes nothing.
use Rattle.std.specs.Prelude.{ℕ, ◌+◌, ◌/◌, ◌%◌, ◌≤◌, ◌≡◌, cond, List, [], ◌∷◌, ◌++◌, leb, length, take, drop}
use Rattle.model.specs.declared.Term.{Term}
use Rattle.model.specs.declared.Term.TheVariants.{Holds, Fails, Open}
use Rattle.std.specs.List.{flat_map}
use Rattle.model.specs.Text.{literal_text, clause_text}
use Rattle.model.specs.Totalizer.{keep}

-- a buffer that held xs, with text written at `at`: what is before and past it is unchanged
abbrev pub over : ℕ → List ℕ → List ℕ → List ℕ
over at text xs = take at xs ++ text ++ drop (at + length text) xs

-- the same where there is room for it; else nothing changes
unfoldable pub placed : List ℕ → ℕ → List ℕ → List ℕ
placed text at xs = cond (leb (at + length text) (length xs)) (over at text xs) xs

-- the place after it; `at` itself where there was no room
unfoldable pub place_after : List ℕ → ℕ → ℕ → ℕ
place_after text at room = cond (leb (at + length text) room) (at + length text) at

-- text was written at `at`, and r is the place after it
pub record Wrote (text : List ℕ) (at : ℕ) (before after : List ℕ) (r : ℕ) : Type 0 where
  pub next : r ≡ at + length text
  pub inside : r ≤ length before
  pub bytes : after ≡ over at text before

-- the last four digits of v
abbrev pub last_four : ℕ → List ℕ
last_four v = (48 + v / 10 / 10 / 10 % 10) ∷ (48 + v / 10 / 10 % 10) ∷ (48 + v / 10 % 10) ∷ (48 + v % 10) ∷ []

-- ---- a clause of which some terms are known

-- a term of a clause that is kept
abbrev pub term_text : Term → List ℕ
term_text Holds = []
term_text Fails = []
term_text (Open l) = literal_text l

-- the clause of these terms, or nothing where one of them is true
unfoldable pub kept_text : List Term → List ℕ
kept_text ts = flat_map clause_text (keep ts)
