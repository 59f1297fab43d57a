-- `hint` keeps what a true clause says where every marked word is false. Assumes nothing.
use mathlib.Core.Path.{refl}
use Rattle.refutation.proofs.Steps.{keep-each, forced-kept}
use Rattle.refutation.proofs.hint.Goals as goal

pub returns-then-index-i : goal.returns-then-index-i
returns-then-index-i c = keep-each c.refuse.ensures.holds

pub returns-then-c-eq0 : goal.returns-then-c-eq0
returns-then-c-eq0 c = keep-each c.refuse-then-c-eq0.ensures.holds

pub returns-then-marks-k : goal.returns-then-marks-k
returns-then-marks-k c = keep-each c.refuse-then-marks-k.ensures.holds

pub returns-in-Nothing : goal.returns-in-Nothing
returns-in-Nothing c = keep-each c.refuse-in-Nothing.ensures.holds

pub returns-else-marks-k : goal.returns-else-marks-k
returns-else-marks-k c = record {
  keeps = λ a h.
      forced-kept h _ _ refl c.if-c-eq0.false _ c.scan_clause-found.ensures _ _ c.in-Forces.is c.flip-k.ensures c.if-marks-k.false;
}
