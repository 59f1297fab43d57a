-- From line to line, and what a head says. Assumes nothing.
use Prim.Native.Nat.{ℕ, suc, ◌+◌, ◌-◌, ◌≤◌, ◌<◌, min}
use mathlib.Core.Path.{◌≡◌, refl, sym, ap, ◌∙◌}
use mathlib.Core.List.{List, [], ◌∷◌}
use native.Mathlib.Decide.{dec_le}
use native.Mathlib.Omega.{arith}
use lib.ListN.{length, get_or, take, drop, length-take, length-drop, drop_of_length-le}
use Rattle.model.specs.Sheet.{lines_of}
use Rattle.sheet.specs.Line.{line_length}
use Rattle.sheet.proofs.Laws.{rest}
use Rattle.sheet.proofs.Reading.{lines_next, rest-next, line-inside, drop_min}
use Rattle.sheet_fault.specs.Fault.{line_at}

-- the first line
pub first-line : (l : List ℕ) → take (line_length l) l ≡ line_at l 0
unfolding line_at
first-line [] = refl
first-line (b ∷ bs) = sym (ap (λ (ls : List (List ℕ)). get_or ls 0 []) (lines_next (b ∷ bs) (omega arith)))

-- as the code cuts it, from place `at` on
module _ (b : List ℕ) (at : ℕ) (h : at ≤ length b) (len : ℕ) (e : len ≡ line_length (take (length b - at) (drop at b))) where
  pub len_is : len ≡ line_length (drop at b)
  len_is = e ∙ ap line_length (rest b at)

  pub line-end : at + len ≤ length b
  line-end = omega (arith, len_is, line-inside (drop at b), length-drop at b)

  pub line-size : len ≡ length (take len (take (length b - at) (drop at b)))
  line-size = sym (length-take len (take (length b - at) (drop at b)) ∙ ap (min len) (ap length (rest b at) ∙ length-drop at b) ∙ omega (arith, line-end))

  pub line-here : take len (take (length b - at) (drop at b)) ≡ line_at (drop at b) 0
  line-here = rw (rest b at, len_is) (first-line (drop at b))

-- ---- the line after the one at `at` begins at `next`

module _ (b : List ℕ) (at next : ℕ) (e : next ≡ min (at + line_length (drop at b) + 1) (length b)) where
  onward : drop next b ≡ drop (at + line_length (drop at b) + 1) b
  onward = ap (λ (k : ℕ). drop k b) e ∙ drop_min b (at + line_length (drop at b) + 1)

  pub one_line : at < length b → length (lines_of (drop at b)) ≡ suc (length (lines_of (drop next b)))
  one_line h = ap length (rest-next b at h) ∙ rw onward

  pub line_on : (left : ℕ) → line_at (drop at b) (suc left) ≡ line_at (drop next b) left
  unfolding line_at
  line_on left = go (dec_le (length b) at)
    where
      go : Dec (length b ≤ at) → get_or (lines_of (drop at b)) (suc left) [] ≡ get_or (lines_of (drop next b)) left []
      go (yes h) = rw (onward, drop_of_length-le b {i = at + line_length (drop at b) + 1} (omega arith), drop_of_length-le b {i = at} h)
      go (no f) = ap (λ (ls : List (List ℕ)). get_or ls (suc left) []) (rest-next b at (omega arith)) ∙ rw onward
