-- A message says what its text does, and each verdict's text what the verdict is. Assumes nothing.
use mathlib.Core.Path.{◌≡◌, refl, sym, ap, ◌∙◌}
use mathlib.Core.Bool.{Bool, true, false, cond}
use mathlib.Core.List.{List, ◌++◌}
use Prim.Native.Nat.{ℕ}
use lib.Dec.{eqb}
use lib.ListN.{length, drop}
use lib.Seq.{take-append_seam}
use Rattle.model.specs.Text.{decimal}
use Rattle.report.specs.declared.Message.{Message}
use Rattle.report.specs.Messages.{bytes, message, Counted, zeros, reason_text, refused_at_text, no_draw_text, not_certified_text}
use Rattle.certificate.specs.declared.Verdict.{Verdict}
use Rattle.certificate.specs.declared.Verdict.TheVariants.{Refused, SettledOut, Certified, NotCertified}
use Rattle.certificate.specs.NoDraw.{is_no}
use Rattle.verdict.specs.Verdict.{verdict_text, printed, says_no}

not_certified_lem : (b : Bool) (x y : List ℕ) → says_no (cond b (bytes "not certified: " ++ x) (bytes "not certified: " ++ y)) ≡ false
unfolding says_no
not_certified_lem true x y = refl
not_certified_lem false x y = refl

verdict-says : (v : Verdict) → says_no (verdict_text v) ≡ is_no v
unfolding says_no refused_at_text no_draw_text not_certified_text
verdict-says (Refused refusal line) = refl
verdict-says SettledOut = refl
verdict-says Certified = refl
verdict-says (NotCertified reason line) =
    not_certified_lem (eqb line 0) (reason_text reason ++ bytes "\n") (reason_text reason ++ bytes " (line " ++ decimal line ++ bytes " of the certificate)\n")

text-printed : (text : List ℕ) → printed (message text) ≡ text
unfolding message
text-printed text = take-append_seam text (drop (length text) zeros)

says : (v : Verdict) (m : Message) → m ≡ message (verdict_text v) → says_no (printed m) ≡ is_no v
says v m e = ap (λ (x : Message). says_no (printed x)) e ∙ ap says_no (text-printed (verdict_text v)) ∙ verdict-says v

-- the message of a verdict that was matched: e says which it is
pub told_of : (v w : Verdict) (m : Message) → v ≡ w → m ≡ message (verdict_text w) → Counted m
    → (m ≡ message (verdict_text v)) × (Counted m × (says_no (printed m) ≡ is_no v))
told_of v w m e q c = let p = q ∙ ap (λ (x : Verdict). message (verdict_text x)) (sym e) in (p, (c, says v m p))
