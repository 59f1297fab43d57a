-- What `draw_certify` answers: the verdict as one number.
use Rattle.std.specs.Prelude.{ℕ, ◌+◌, ◌*◌, ◌≡◌, true, List}
use Rattle.certificate.specs.declared.Verdict.{Verdict}
use Rattle.certificate.specs.declared.Verdict.TheVariants.{Refused, SettledOut, Certified, NotCertified}
use Rattle.certificate.specs.NoDraw.{NoDraw, opening_of, opening_in, is_no}

-- 0 not certified, 1 the sheet is refused, 2 no draw: settled out, 3 no draw: certified; with it the reason or the refusal, times 4, and the line, times 65,536
abbrev pub verdict_number : Verdict → ℕ
verdict_number (NotCertified reason line) = line * 65536 + reason * 4
verdict_number (Refused refusal line) = line * 65536 + refusal * 4 + 1
verdict_number SettledOut = 2
verdict_number Certified = 3

-- the number of a verdict that is what the sheet's reader and settling say, and a "no" only where there is no draw
pub record Judged (b : List ℕ) (r : ℕ) : Type 0 where
  pub verdict : Verdict
  pub number : r ≡ verdict_number verdict
  pub opening : opening_in verdict ≡ opening_of b
  pub no : is_no verdict ≡ true → NoDraw b
