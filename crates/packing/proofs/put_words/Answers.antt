use native.Mathlib.Omega.{arith}
use lib.Seq.{length-take-le}
use Rattle.packing.proofs.put_words.Goals as goal

-- both are a word for each group
pub copy_from_slice-requires : goal.copy_from_slice-requires
copy_from_slice-requires c = omega (arith, length-take-le 256 c.args.groups.now (omega (arith, c.requires)), c.told-words)
