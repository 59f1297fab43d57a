-- `header_fits` measures block 0, where not every block would fit. Assumes nothing.
use mathlib.Core.Path.{refl, ap, sym}
use native.Mathlib.Omega.{arith}
use borrow.Author.Tests.{le-leb}
use lib.ListN.{length}
use Rattle.model.specs.Text.{header_text}
use Rattle.encoding_laws.proofs.Bounds.{block-bound}
use Rattle.cnf.proofs.Settled.{header-block}
use Rattle.cnf.proofs.header_fits.Goals as goal

pub put_header-n-requires : goal.put_header-n-requires
put_header-n-requires c =
    let p = c.requires in
    record { settled = p; m_in_bounds = omega (arith, block-bound c.args.m.now p.0 0, ap length (header-block c.args.m.now p.0 0 refl)) }

pub returns : goal.returns
returns c =
    let q = c.requires.0 in
    sym (le-leb (length (header_text c.args.m.now)) c.args.left (omega (arith, block-bound c.args.m.now q 0, ap length (header-block c.args.m.now q 0 refl), c.if-left-lt-BLOCK_BYTES.false)))
