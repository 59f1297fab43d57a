-- The reader before a certificate's first byte.
use Rattle.std.specs.Prelude.{false, cond}
use Rattle.std.specs.Option.{is_none}
use Rattle.refutation.specs.declared.State.{State}
use Rattle.lrat.specs.declared.Phase.TheVariants.{Number}
use Rattle.lrat.specs.declared.Reader.{Reader}

-- at line 1, where the next number is a clause's; at line 0 where the state is refused before it
unfoldable pub first_reader : State → Reader
first_reader s = record { state = s; line = cond (is_none s.refusal) 1 0; phase = Number; value = 0; digits = false; minus = false }
