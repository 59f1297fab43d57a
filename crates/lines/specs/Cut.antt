-- A solver's output cut into lines, a byte at a time; each line is read as it ends. A line longer than the lent space is passed over whole.
use Rattle.std.specs.Prelude.{ℕ, ◌+◌, Bool, true, false, cond, not, ◌&&◌, List, [], ◌∷◌, ltb, eqb, length, take, set}
use Rattle.model.specs.declared.Reading.{Reading}
use Rattle.model.specs.Lists.{stop}
use Rattle.model.specs.Assignment.{is_passed_over, line_read, values_after}
use Rattle.lines.specs.declared.Cut.{Cut}
use Rattle.lines.specs.declared.Ended.{Ended}
use Rattle.lines.specs.declared.Fed.{Fed}

-- where the cutting stands: the state, the lent space, whose first `held` bytes are what is kept of the unfinished line, and the values
pub record Cutting : Type 0 where
  pub cut : Cut
  pub space : List ℕ
  pub values : List ℕ

abbrev pub cutting : Cut → List ℕ → List ℕ → Cutting
cutting c space values = record { cut = c; space = space; values = values }

-- ---- byte 10: the line is read, and the next one begins

-- lines are counted up to the largest number of 32 bits
unfoldable pub next_number : ℕ → ℕ
next_number n = cond (ltb n 4294967295) (n + 1) n

-- before line `number`
abbrev pub line_start : Reading → ℕ → Cut
line_start r number = record { reading = r; number = number; held = 0; long = false }

-- 24, as of a buffer that is too short, of a line that the space does not hold; comments and `s` lines are passed over, whatever their length
unfoldable pub too_long : List ℕ → ℕ
too_long kept = stop (is_passed_over kept) 0 24

-- the refusal of a line of which these bytes are kept, and the state before the next one
unfoldable pub line_end : Cut → List ℕ → List ℕ → Ended
line_end c kept values = record {
  refusal = cond c.long (too_long kept) (line_read c.reading kept values).refusal;
  cut = line_start (cond c.long c.reading (line_read c.reading kept values).reading) (next_number c.number);
}

unfoldable pub values_at_end : Cut → List ℕ → List ℕ → List ℕ
values_at_end c kept values = cond c.long values (values_after c.reading kept values)

-- what is kept of the unfinished line, and its end
abbrev pub kept_line : Cutting → List ℕ
kept_line s = take s.cut.held s.space

abbrev pub end_of : Cutting → Ended
end_of s = line_end s.cut (kept_line s) s.values

unfoldable pub end_line : Cutting → Cutting
end_line s = record { cut = (end_of s).cut; space = s.space; values = values_at_end s.cut (kept_line s) s.values }

-- ---- any other byte: it is kept where there is room, and else the line is too long

unfoldable pub keep_byte : ℕ → Cut → Cut
keep_byte room c = record {
  reading = c.reading;
  number = c.number;
  held = cond (ltb c.held room) (c.held + 1) c.held;
  long = cond (ltb c.held room) c.long true;
}

-- (`set` changes nothing past the end)
unfoldable pub add_byte : ℕ → Cutting → Cutting
add_byte b s = record { cut = keep_byte (length s.space) s.cut; space = set s.space s.cut.held b; values = s.values }

-- ---- bytes

unfoldable pub cut_byte : ℕ → Cutting → Cutting
cut_byte b s = cond (eqb b 10) (end_line s) (add_byte b s)

abbrev pub cut_bytes : List ℕ → Cutting → Cutting
cut_bytes [] s = s
cut_bytes (b ∷ bs) s = cut_bytes bs (cut_byte b s)

-- a last line without byte 10 is a line: what the end of the output ends
unfoldable pub at_start : Cut → Bool
at_start c = eqb c.held 0 && not c.long

unfoldable pub cut_end : Cutting → Cutting
cut_end s = cond (at_start s.cut) s (end_line s)

-- ---- what a call answers: it stops after the first line that is refused

pub record Feeding : Type 0 where
  pub answer : Fed
  pub after : Cutting

-- the refusal of the line that byte b ends; 0 where it ends none
unfoldable pub byte_refusal : ℕ → Cutting → ℕ
byte_refusal b s = cond (eqb b 10) (end_of s).refusal 0

abbrev pub stopped : Cutting → ℕ → ℕ → ℕ → Feeding
stopped s used refusal line = record { answer = record { cut = s.cut; used = used; refusal = refusal; line = line }; after = s }

-- bytes after `used` others
abbrev pub feed_from : ℕ → List ℕ → Cutting → Feeding
feed_from used [] s = stopped s used 0 0
feed_from used (b ∷ bs) s =
    cond (eqb (byte_refusal b s) 0) (feed_from (used + 1) bs (cut_byte b s))
    (stopped (cut_byte b s) (used + 1) (byte_refusal b s) s.cut.number)

abbrev pub feeding : List ℕ → Cutting → Feeding
feeding piece s = feed_from 0 piece s

-- the same at the end of the output
unfoldable pub finishing : Cutting → Feeding
finishing s = cond (at_start s.cut) (stopped s 0 0 0) (stopped (end_line s) 0 (end_of s).refusal s.cut.number)
