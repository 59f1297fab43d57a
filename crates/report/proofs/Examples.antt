-- Messages that compute. Assumes nothing.
use mathlib.Core.Path.{◌≡◌, refl}
use Rattle.model.specs.Text.{digits, decimal}
use Rattle.report.specs.Messages.{bytes, meaning_text, refused_at_text, refused_line_text, counts_text, reason_text, not_certified_text, fault_start, fault_end, wrong_groups_text}

at_a_line : refused_at_text 9 14 ≡ bytes "refused 9 at line 14\na group stands twice in the line\n"
unfolding refused_at_text meaning_text decimal digits
at_a_line = refl

of_a_line : refused_line_text 3 12 ≡ bytes "line 3: refused 12: a variable is said twice\n"
unfolding refused_line_text meaning_text decimal digits
of_a_line = refl

a_long-line : refused_line_text 7 24 ≡ bytes "line 7: too long, not read\n"
unfolding refused_line_text decimal digits
a_long-line = refl

a_sheet : counts_text 32 4 10 ≡ bytes "32 entrants, 4 groups, 10 constraints\n"
unfolding counts_text decimal digits
a_sheet = refl

of_a_certificate : not_certified_text 6 12 ≡ bytes "not certified: the hints do not show the clause (line 12 of the certificate)\n"
unfolding not_certified_text reason_text decimal digits
of_a_certificate = refl

before_a_certificate : not_certified_text 11 0 ≡ bytes "not certified: there is no room for a block of the listing\n"
unfolding not_certified_text reason_text
before_a_certificate = refl

of_groups_lem : wrong_groups_text 4 6 5 ≡ bytes "line 6: group 5 is missing\n"
unfolding wrong_groups_text fault_start fault_end decimal digits
of_groups_lem = refl

of_an_entrant : wrong_groups_text 6 2 7 ≡ bytes "line 2: entrant 7 stands twice in the line\n"
unfolding wrong_groups_text fault_start fault_end decimal digits
of_an_entrant = refl
