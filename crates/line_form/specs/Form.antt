-- What the form reader's functions answer, in the definitions' terms.
use Rattle.std.specs.Prelude.{ℕ, suc, ◌+◌, Bool, false, cond, List, [], ◌∷◌, eqb, length}
use Rattle.std.specs.Prelude.{Option, None, Some}
use Rattle.model.specs.Assignment.{Said}
use Rattle.line_form.specs.declared.Shape.{Shape}

-- how many bytes stand before the first space
abbrev pub word_length : List ℕ → ℕ
word_length [] = 0
word_length (b ∷ bs) = cond (eqb b 32) 0 (suc (word_length bs))

-- ---- the form of a line

-- after `count` literals, and from the start
abbrev pub form_after : ℕ → Option Said → Option Shape
form_after count None = None
form_after count (Some s) = Some (record { count = count + length s.literals; closed = s.closed })

abbrev pub form_from : Option Said → Option Shape
form_from o = form_after 0 o

-- "When an answer is an enum, a definition gives this paper's number and values for each of its cases": of a form, refusal 10, how many literals the
-- line names, and whether a closing 0 ends it
abbrev pub form_refusal : Option Shape → ℕ
form_refusal None = 10
form_refusal (Some s) = 0

abbrev pub form_count : Option Shape → ℕ
form_count None = 0
form_count (Some s) = s.count

abbrev pub form_closes : Option Shape → Bool
form_closes None = false
form_closes (Some s) = s.closed

-- a refusal where a line says nothing, its form being bad
abbrev pub unsaid : ℕ → Option Said → ℕ
unsaid refusal None = refusal
unsaid refusal (Some s) = 0
