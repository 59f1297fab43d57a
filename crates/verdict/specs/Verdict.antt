-- What a verdict is told as, and what of it is a "no".
use Rattle.std.specs.Prelude.{ℕ, Bool, true, false, List, eqb, take}
use Rattle.model.specs.Lists.{pairwise}
use Rattle.report.specs.declared.Message.{Message}
use Rattle.report.specs.Messages.{bytes, refused_at_text, no_draw_text, not_certified_text}
use Rattle.certificate.specs.declared.Verdict.{Verdict}
use Rattle.certificate.specs.declared.Verdict.TheVariants.{Refused, SettledOut, Certified, NotCertified}

abbrev pub verdict_text : Verdict → List ℕ
verdict_text (Refused refusal line) = refused_at_text refusal line
verdict_text SettledOut = no_draw_text false
verdict_text Certified = no_draw_text true
verdict_text (NotCertified reason line) = not_certified_text reason line

-- the bytes that are printed
abbrev pub printed : Message → List ℕ
printed m = take m.length m.bytes

-- whether a text begins with `no draw`
unfoldable pub says_no : List ℕ → Bool
says_no text = pairwise eqb (take 7 text) (bytes "no draw")
