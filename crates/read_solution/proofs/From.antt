-- An answer to the lines of some bytes. Assumes nothing.
use Prim.Native.Nat.{ℕ}
use mathlib.Core.Path.{◌≡◌}
use mathlib.Core.List.{List}
use Rattle.model.specs.Sheet.{lines_of}
use Rattle.lines.specs.Lines.{fitting}
use Rattle.answering.specs.declared.Answered.{Answered}
use Rattle.answering.specs.Answers.{answered, Answers}
use Rattle.answering.proofs.Draws.{each-draw}
use Rattle.read_solution.specs.From.{AnsweredFrom}

pub from : (room : ℕ) (b bytes : List ℕ) (r : Answered) → (r ≡ answered b (fitting room (lines_of bytes))) × Answers b (fitting room (lines_of bytes)) r → AnsweredFrom room b r
from room b bytes r p = record { bytes = bytes; answer = p.0; law = p.1; draws = each-draw b }
