-- `load_clauses` meets its contract: nothing is stored at the start, then the blocks from 1 on. Assumes nothing.
use Rattle.certificate.proofs.load_clauses.Goals as goal

pub returns : goal.returns
returns c = λ q a t. c.load_blocks-l.ensures q a t (c.start-state.ensures.holds a _)
