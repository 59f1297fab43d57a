-- What a certified "no" says, and what is known of a sheet before a certificate is read and after its bytes.
use Rattle.std.specs.Prelude.{ℕ, ◌≡◌, Bool, true, false, cond, List, T, eqb, length, replicate}
use Rattle.model.specs.declared.Model.{Model}
use Rattle.model.specs.declared.SheetRead.{SheetRead}
use Rattle.model.specs.Sheet.{read_sheet}
use Rattle.model.specs.Propagate.{propagated}
use Rattle.model.specs.Solution.{is_solution}
use Rattle.model.specs.Demand.{Accepted}
use Rattle.refutation.specs.declared.State.{State}
use Rattle.refutation.specs.Sound.{Holds}
use Rattle.certificate.specs.declared.Opening.{Opening}
use Rattle.certificate.specs.declared.Opening.TheVariants.{Refused, SettledOut, Open}
use Rattle.certificate.specs.declared.Verdict.{Verdict}
use Rattle.certificate.specs.declared.Verdict.TheVariants as verdict
use Rattle.certificate.specs.declared.Standing.{Standing}

-- the sheet is accepted, and no list of groups is a draw of it
pub record NoDraw (b : List ℕ) : Type 0 where
  pub model : Model
  pub accepted : Accepted b model
  pub none : (d : List ℕ) → T (is_solution model d) → ⊥

-- ---- before the certificate: the reader refuses the sheet, settling gives 21, or it is open

abbrev pub settled_opening : ℕ → Opening
settled_opening refusal = cond (eqb refusal 21) SettledOut Open

abbrev pub read_opening : SheetRead → Opening
read_opening r = cond (eqb r.refusal 0) (settled_opening (propagated r.model).refusal) (Refused r.refusal r.line)

unfoldable pub opening_of : List ℕ → Opening
opening_of b = read_opening (read_sheet b)

-- its number and value: the refusal, 21 where it settles out, 0 where it is open; and the line of a refusal
abbrev pub opening_refusal : Opening → ℕ
opening_refusal (Refused refusal line) = refusal
opening_refusal SettledOut = 21
opening_refusal Open = 0

abbrev pub opening_line : Opening → ℕ
opening_line (Refused refusal line) = line
opening_line SettledOut = 0
opening_line Open = 0

-- the same by what the reader and settling answer
abbrev pub read_refusal : SheetRead → ℕ
read_refusal r = cond (eqb r.refusal 0) (propagated r.model).refusal r.refusal

unfoldable pub sheet_refusal : List ℕ → ℕ
sheet_refusal b = read_refusal (read_sheet b)

unfoldable pub sheet_line : List ℕ → ℕ
sheet_line b = (read_sheet b).line

abbrev pub is_open : Opening → Bool
is_open (Refused refusal line) = false
is_open SettledOut = false
is_open Open = true

-- ---- after it

unfoldable pub cleared : List ℕ → List ℕ
cleared buffer = replicate (length buffer) 0

-- what is left of a buffer that was lent for the whole: zeros where the sheet is open, and else the buffer as it was
unfoldable pub left_as : List ℕ → List ℕ → List ℕ
left_as b buffer = cond (is_open (opening_of b)) (cleared buffer) buffer

-- what a verdict says of the sheet alone
abbrev pub opening_in : Verdict → Opening
opening_in (verdict.Refused refusal line) = Refused refusal line
opening_in verdict.SettledOut = SettledOut
opening_in verdict.Certified = Open
opening_in (verdict.NotCertified reason line) = Open

abbrev pub is_no : Verdict → Bool
is_no (verdict.Refused refusal line) = false
is_no verdict.SettledOut = true
is_no verdict.Certified = true
is_no (verdict.NotCertified reason line) = false

-- ---- on the way

-- for every draw of the sheet there is an assignment for which the refutation holds
pub record Unrefuted (b : List ℕ) (s : State) (store index marks : List ℕ) : Type 0 where
  pub model : Model
  pub accepted : Accepted b model
  pub draws : (d : List ℕ) → T (is_solution model d) → (a : List Bool) × Holds a s store index marks

pub record Stands (b : List ℕ) (s : Standing) (store index marks : List ℕ) : Type 0 where
  pub out : s.opening ≡ SettledOut → NoDraw b
  pub unrefuted : s.opening ≡ Open → Unrefuted b s.reader.state store index marks
