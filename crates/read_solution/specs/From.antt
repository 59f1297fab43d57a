-- What the program knows of the bytes that it read: closing and the answer are those of the lines of some bytes.
use Rattle.std.specs.Prelude.{ℕ, ◌≡◌, List}
use Rattle.model.specs.declared.Model.{Model}
use Rattle.model.specs.declared.Closed.{Closed}
use Rattle.model.specs.Sheet.{lines_of}
use Rattle.lines.specs.Lines.{fitting}
use Rattle.correctness.specs.Demand3.{closed_after}
use Rattle.answering.specs.declared.Answered.{Answered}
use Rattle.answering.specs.Answers.{answered, Answers, EachDraw}

-- the lines that a space of `room` bytes holds
pub record ClosedFrom (room : ℕ) (m : Model) (values : List ℕ) (r : Closed) : Type 0 where
  pub bytes : List ℕ
  pub closing : r ≡ closed_after m (fitting room (lines_of bytes)) values

pub record AnsweredFrom (room : ℕ) (sheet : List ℕ) (r : Answered) : Type 0 where
  pub bytes : List ℕ
  pub answer : r ≡ answered sheet (fitting room (lines_of bytes))
  pub law : Answers sheet (fitting room (lines_of bytes)) r
  pub draws : EachDraw sheet
