-- `write_rising` writes a clause of variables one after the other. Invariant: those up to i are written. Assumes nothing.
use mathlib.Core.List.{List}
use Prim.Native.Nat.{ℕ}
use Rattle.model.specs.declared.Literal.TheVariants.{Pos}
use Rattle.std.specs.List.{flat_map}
use Rattle.model.specs.Lists.{range}
use Rattle.model.specs.Text.{literal_text}
use Rattle.text.specs.Put.{Wrote}
use Rattle.cnf.proofs.write_rising.Given as goal

abbrev pub text : ℕ → List ℕ
text v = literal_text (Pos v)

abbrev pub invariant-loop-i : goal.invariant-loop-i
invariant-loop-i l = Wrote (flat_map text (range l.x l.i)) 0 l.initial.buf l.buf l.n
