-- `most_bytes` is what no block of a tree is longer than. Assumes nothing.
use native.Mathlib.Omega.{arith}
use Rattle.encoding_laws.proofs.Bounds.{most_bytes, most-bytes-fit}
use Rattle.cnf.proofs.most_bytes.Goals as goal

pub returns : goal.returns
unfolding most_bytes
returns c = (omega arith, most-bytes-fit c.args.m c.requires)
