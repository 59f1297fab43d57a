-- `verdict_number` gives each verdict its number. Assumes nothing.
use mathlib.Core.Path.{sym, ap}
use Rattle.exports.specs.Certify.{verdict_number}
use Rattle.exports.proofs.verdict_number.Goals as goal

pub returns-in-NotCertified : goal.returns-in-NotCertified
returns-in-NotCertified c = sym (ap verdict_number c.in-NotCertified.is)

pub returns-in-Refused : goal.returns-in-Refused
returns-in-Refused c = sym (ap verdict_number c.in-Refused.is)
