-- The number of entrants is the number of ones of a word, under a name for the search. Assumes nothing.
use Rattle.model.proofs.Words.{size-ones}

pub ruleset sizes = (size-ones)
