-- `keep_byte` keeps a byte where there is room. Assumes nothing.
use mathlib.Core.Path.{refl, sym}
use borrow.Author.Tests.{lt-ltb, le-ltb}
use lib.Seq.{set_out}
use Rattle.lines.specs.Cut.{keep_byte}
use Rattle.lines.proofs.keep_byte.Goals as goal

pub returns-then-held-space : goal.returns-then-held-space
unfolding keep_byte
returns-then-held-space c = record { value = rw (lt-ltb _ _ c.if-held-space.true); space_after = refl }

pub returns : goal.returns
unfolding keep_byte
returns c = record { value = rw (le-ltb _ _ c.if-held-space.false); space_after = sym (set_out _ _ _ c.if-held-space.false) }
