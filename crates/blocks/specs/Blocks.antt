-- Where each group's blocks start, and what is judged of a block before its text is written. Assumes nothing.
use Rattle.std.specs.Prelude.{ℕ, List, map, ltb}
use Rattle.model.specs.declared.Group.{Group}
use Rattle.model.specs.declared.Model.{Model}
use Rattle.model.specs.Lists.{range, stop}
use Rattle.model.specs.Limits.{limits}
use Rattle.model.specs.Propagate.{unsettled_or}
use Rattle.model.specs.Cnf.{block_count}
use Rattle.encoding_laws.specs.Division.{first_block}

-- the first block of each group
unfoldable pub first_blocks : List Group → List ℕ
first_blocks t = map (first_block t) (range 1 limits.groups)

-- the refusals that do not depend on the buffer
unfoldable pub judgement : Model → ℕ → ℕ
judgement m b = unsettled_or m (stop (ltb (block_count m) b) 23 0)
