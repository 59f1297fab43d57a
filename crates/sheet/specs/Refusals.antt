-- Why a line is refused: the numbers of document 01, and of a line's judgement its refusal, or 0.
use Rattle.std.specs.Prelude.{ℕ, Result, Ok, Err}
use Rattle.sheet.specs.declared.Refusal.{Refusal}
use Rattle.sheet.specs.declared.Refusal.TheVariants.{Width, Field, Kind, Count, Range, Order, Twice}

abbrev pub refusal_number : Refusal → ℕ
refusal_number Width = 3
refusal_number Field = 4
refusal_number Kind = 5
refusal_number Count = 6
refusal_number Range = 7
refusal_number Order = 8
refusal_number Twice = 9

abbrev pub judged : Result (Unit {0}) Refusal → ℕ
judged (Ok done) = 0
judged (Err r) = refusal_number r
