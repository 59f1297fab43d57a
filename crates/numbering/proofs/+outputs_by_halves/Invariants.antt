-- `outputs_by_halves` counts a tree's outputs by its step: the size falls by half at each call. Assumes nothing.
use Rattle.numbering.proofs.+outputs_by_halves.Given as goal

abbrev pub decreases-outputs_by_halves : goal.decreases-outputs_by_halves
decreases-outputs_by_halves l = l.m
