-- `clear` clears each of the four. Assumes nothing.
use Rattle.certificate.specs.NoDraw.{cleared}
use Rattle.certificate.proofs.clear.Goals as goal

pub returns : goal.returns
unfolding cleared
returns c = (c.clear_bytes.ensures, c.clear_words.ensures, c.clear_words-2.ensures, c.clear_words-3.ensures)
