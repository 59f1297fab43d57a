-- `clauses_by_halves` counts a tree's clauses by its step: the size falls by half at each call. Assumes nothing.
use Rattle.counts.proofs.+clauses_by_halves.Given as goal

abbrev pub decreases-clauses_by_halves : goal.decreases-clauses_by_halves
decreases-clauses_by_halves l = l.m
