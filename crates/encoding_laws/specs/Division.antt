-- The division of the listing into blocks: how many a group has and which is its first; and document 01's own, a block a group, beside request 7's.
-- Assumes nothing.
use Rattle.std.specs.Prelude.{ℕ, ◌+◌, ◌-◌, ◌≤◌, ◌≡◌, cond, List, [], ◌++◌, leb, take}
use Rattle.model.specs.declared.Literal.{Literal}
use Rattle.model.specs.declared.Group.{Group}
use Rattle.model.specs.declared.Model.{Model}
use Rattle.std.specs.List.{flat_map}
use Rattle.model.specs.Lists.{total, range}
use Rattle.model.specs.Model.{group_at, table_of}
use Rattle.model.specs.Totalizer.{node_clauses, Shape, shape, root_output, nodes, unit_clauses}
use Rattle.model.specs.Cnf.{open_count, at_least, at_most, counted, first_variable, first_output, group_blocks, line_clauses}
use Rattle.model.specs.Text.{clause_text, header_text, listing}

-- ---- where a group's blocks are

-- "one block per tree node of size 2 or more ..; a group without a counter has none": how many
unfoldable pub nodes_of : Group → ℕ
nodes_of g = cond (counted g) (open_count g - 1) 0

-- the first of them, as a group's first variable and first output are given
unfoldable pub first_block : List Group → ℕ → ℕ
first_block t g = 1 + total nodes_of (take (g - 1) t)

-- ---- a totalizer's clauses as a whole

unfoldable pub tree_clauses : Shape → ℕ → ℕ → List (List Literal)
tree_clauses s v o = flat_map node_clauses (nodes s v o)

-- "After the root's clauses: units"
unfoldable pub totalizer_clauses : ℕ → ℕ → ℕ → ℕ → ℕ → List (List Literal)
totalizer_clauses m v o L U = tree_clauses (shape m) v o ++ unit_clauses (root_output (shape m) v o) m L U

-- those of a group, "possibly empty"
unfoldable pub group_clauses : List Group → ℕ → List (List Literal)
group_clauses t g =
    let r = group_at t g in
    cond (counted r) (totalizer_clauses (open_count r) (first_variable t g) (first_output t g) (at_least r) (at_most r)) []

-- ---- all blocks of a group put together are its totalizer's clauses, and all blocks together are the same bytes as in document 01's division

-- 01: "block g (1..s) is group g's counter ..; block s+j is line j"
unfoldable pub clauses_by_group : Model → ℕ → List (List Literal)
clauses_by_group m b = cond (leb b m.s) (group_clauses (table_of m) b) (line_clauses m (b - m.s))

unfoldable pub listing_by_group : Model → List ℕ
listing_by_group m = header_text m ++ flat_map (λ b. flat_map clause_text (clauses_by_group m b)) (range 1 (m.s + m.c))

pub record SameListing (m : Model) : Type 0 where
  pub groups : (g : ℕ) → 1 ≤ g → g ≤ m.s → flat_map (λ b. b) (group_blocks (table_of m) g) ≡ group_clauses (table_of m) g
  pub bytes : listing m ≡ listing_by_group m
