-- `told` picks the message of each verdict. Assumes nothing.
use Rattle.verdict.proofs.Said.{told_of}
use Rattle.verdict.proofs.told.Goals as goal

-- the clauses by their names
named : {A B C : Type 0} → A × (B × C) → record { value : A; counted : B; result_value : C }
named p = record { value = p.0; counted = p.1.0; result_value = p.1.1 }

pub returns-in-Refused : goal.returns-in-Refused
returns-in-Refused c = named (told_of _ _ _ c.in-Refused.is c.refused_at.ensures.value c.refused_at.ensures.counted)

pub returns-in-SettledOut : goal.returns-in-SettledOut
returns-in-SettledOut c = named (told_of _ _ _ c.in-SettledOut.is c.no_draw.ensures.value c.no_draw.ensures.counted)

pub returns-in-Certified : goal.returns-in-Certified
returns-in-Certified c = named (told_of _ _ _ c.in-Certified.is c.no_draw-in-Certified.ensures.value c.no_draw-in-Certified.ensures.counted)

pub returns-in-NotCertified : goal.returns-in-NotCertified
returns-in-NotCertified c = named (told_of _ _ _ c.in-NotCertified.is c.not_certified.ensures.value c.not_certified.ensures.counted)
