-- `put_model` lays a model's words at the front, where they fit: its numbers, its groups, its constraints. Assumes nothing.
use native.Mathlib.Omega.{arith}
use Rattle.packing.proofs.Laid.{all_laid}
use Rattle.packing.proofs.put_model.Goals as goal

pub returns-clause-words_after : goal.returns-clause-words_after
returns-clause-words_after c =
    let e = c.lay_constraints.ensures in
    let g = c.lay_groups.ensures in
    all_laid c.args.m.now c.args.words.now _ _ _ (omega (arith, c.if-words-lt-MODEL_WORDS.false)) g.groups_len e.constraints_len
    (rw (c.from.ensures, c.from-2.ensures, c.from-3.ensures)) g.table_after e.words_after
