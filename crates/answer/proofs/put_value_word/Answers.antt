-- `put_value_word` writes the value to an array of its own, and copies it as a word. Assumes nothing.
use native.Mathlib.Omega.{arith}
use Rattle.answer.proofs.Values.{value-length}
use Rattle.answer.proofs.put_value_word.Goals as goal

pub put_value-n-requires : goal.put_value-n-requires
put_value-n-requires c = omega (arith, value-length c.args.x c.args.v c.requires.v_le_variables.0)
