-- A solver line's refusal is at most 25, so that twice it and 1 fit. Assumes nothing.
use mathlib.Core.Path.{◌≡◌}
use mathlib.Core.Bool.{Bool, true, false, not}
use mathlib.Core.List.{List, [], ◌∷◌}
use Rattle.std.specs.Prelude.{Option, None, Some}
use Prim.Native.Nat.{ℕ, ◌-◌, ◌≤◌}
use native.Mathlib.Omega.{arith}
use lib.Dec.{ltb, eqb}
use lib.ListN.{length, get_or}
use Rattle.model.specs.declared.Literal.{Literal}
use Rattle.model.specs.declared.Reading.{Reading}
use Rattle.model.specs.declared.LineRead.{LineRead}
use Rattle.model.specs.Lists.{stop}
use Rattle.model.specs.Assignment.{Said, form_of, is_said, variable, with_value, literals_refusal, said_refusal, is_passed_over, call_refusal, line_read}
use Rattle.packing.specs.Packing.{line_number}

stop-small : (x : Bool) (r rest : ℕ) → r ≤ 25 → rest ≤ 25 → stop x r rest ≤ 25
stop-small true r rest h k = h
stop-small false r rest h k = k

literals-small : (ls : List Literal) (values : List ℕ) → literals_refusal ls values ≤ 25
literals-small [] values = omega arith
literals-small (l ∷ ls) values =
    stop-small (ltb (length values) (variable l)) 11 _ (omega arith)
    (stop-small (is_said (get_or values (variable l - 1) 0)) 12 _ (omega arith) (literals-small ls (with_value l values)))

said-small : (s : Option Said) (values : List ℕ) → said_refusal s values ≤ 25
said-small None values = omega arith
said-small (Some s) values = literals-small s.literals values

read_small : (r : Reading) (line values : List ℕ) → (line_read r line values).refusal ≤ 25
unfolding line_read call_refusal
read_small r line values =
    stop-small (is_passed_over line) 0 _ (omega arith)
    (stop-small (not (eqb (get_or line 0 0) 118)) 10 _ (omega arith)
    (stop-small r.closed 25 _ (omega arith) (said-small (form_of line) values)))

pub line_small : (r : Reading) (line values : List ℕ) (x : LineRead) → x ≡ line_read r line values → line_number x.refusal x.reading.closed ≤ 51
line_small r line values x e = rw e (go (line_read r line values).refusal (line_read r line values).reading.closed (read_small r line values))
  where
    go : (n : ℕ) (b : Bool) → n ≤ 25 → line_number n b ≤ 51
    go n true h = omega arith
    go n false h = omega arith
