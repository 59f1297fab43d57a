-- What the laws of cutting speak of: pieces one after the other, and the lines of all their bytes.
use Rattle.std.specs.Prelude.{ℕ, ◌≡◌, cond, List, [], ◌∷◌, ◌++◌, leb, eqb, length}
use Rattle.model.specs.Lists.{those}
use Rattle.model.specs.declared.Reading.{Reading}
use Rattle.model.specs.Sheet.{lines_of}
use Rattle.model.specs.Demand.{fresh_reading, reading_after, values_after_all}
use Rattle.lines.specs.declared.Cut.{Cut}
use Rattle.lines.specs.Cut.{Cutting, line_start, cut_bytes}

-- before the first byte
unfoldable pub fresh_cut : Cut
fresh_cut = line_start fresh_reading 1

-- pieces one after the other
abbrev pub cut_pieces : List (List ℕ) → Cutting → Cutting
cut_pieces [] s = s
cut_pieces (p ∷ ps) s = cut_pieces ps (cut_bytes p s)

-- the lines that byte 10 ends, and what stands after the last byte 10; `l` are the bytes of the first line that came before
abbrev pub ended_lines : List ℕ → List ℕ → List (List ℕ)
ended_lines l [] = []
ended_lines l (b ∷ bs) = cond (eqb b 10) (l ∷ ended_lines [] bs) (ended_lines (l ++ (b ∷ [])) bs)

abbrev pub unfinished : List ℕ → List ℕ → List ℕ
unfinished l [] = l
unfinished l (b ∷ bs) = cond (eqb b 10) (unfinished [] bs) (unfinished (l ++ (b ∷ [])) bs)

-- the lines that a space of `room` bytes holds
unfoldable pub fitting : ℕ → List (List ℕ) → List (List ℕ)
fitting room ls = those (λ l. leb (length l) room) ls

-- a reading of a solver's output, whatever it was: r and the values after are those of the lines of some bytes
pub record ReadFrom (room : ℕ) (before after : List ℕ) (r : Reading) : Type 0 where
  pub bytes : List ℕ
  pub reading : r ≡ reading_after (fitting room (lines_of bytes)) fresh_reading before
  pub values : after ≡ values_after_all (fitting room (lines_of bytes)) fresh_reading before
