-- Request 4 of document 02: "for every node a tree can have, every p up to a and every q up to b the clauses written are shown to be what the last step
-- leaves". Assumes nothing.
use Rattle.std.specs.Prelude.{ℕ, suc, ◌+◌, ◌/◌, ◌≤◌, ◌≡◌, cond, List, [], ◌∷◌, ◌++◌, T, length, take, drop}
use Rattle.model.specs.declared.Literal.{Literal}
use Rattle.model.specs.declared.Node.{Node}
use Rattle.model.specs.declared.Group.{Group}
use Rattle.model.specs.declared.Model.{Model}
use Rattle.std.specs.List.{flat_map}
use Rattle.model.specs.Lists.{range}
use Rattle.model.specs.Model.{group_at, table_of}
use Rattle.model.specs.Totalizer.{dropped, row_clauses, shape, nodes}
use Rattle.model.specs.Cnf.{open_count, counted, first_variable, first_output}
use Rattle.model.specs.Text.{clause_text}
use Rattle.model.proofs.Lists.{All}

-- the nodes of group g's totalizer, where it has one, in the tree's order
unfoldable pub group_nodes : List Group → ℕ → List Node
group_nodes t g =
    let r = group_at t g in
    cond (counted r) (nodes (shape (open_count r)) (first_variable t g) (first_output t g)) []

-- those of all groups: block 1 has the first of them, and so on
unfoldable pub block_nodes : Model → List Node
block_nodes m = flat_map (group_nodes (table_of m)) (range 1 m.s)

-- a node that a tree of size m can have: of any size from 2 to m, its left half "of size m/2 rounded down"
pub record NodeOf (m : ℕ) (t : Node) : Type 0 where
  pub two : 2 ≤ t.a + t.b
  pub most : t.a + t.b ≤ m
  pub half : t.a ≡ (t.a + t.b) / 2

-- the nodes of a tree of size m: the last is of that size, "then the node itself"
pub record Rooted (m : ℕ) (ns : List Node) : Type 0 where
  pub before : List Node
  pub root : Node
  pub last : ns ≡ before ++ (root ∷ [])
  pub whole : root.a + root.b ≡ m

-- the node's clauses before those of p and q
unfoldable pub earlier : Node → ℕ → ℕ → List (List Literal)
earlier t p q = flat_map (row_clauses t) (range 0 p) ++ flat_map (dropped t p) (range 0 q)

-- where the clauses of p and q start in the bytes of the node's block
unfoldable pub place_of : Node → ℕ → ℕ → ℕ
place_of t p q = length (flat_map clause_text (earlier t p q))

-- a buffer that holds block b from its start
pub record BySteps (m : Model) (b : ℕ) (buf : List ℕ) : Type 0 where
  pub sizes : (g : ℕ) → All (NodeOf (open_count (group_at (table_of m) g))) (group_nodes (table_of m) g)
  pub rooted : (g : ℕ) → T (counted (group_at (table_of m) g)) → 2 ≤ open_count (group_at (table_of m) g)
      → Rooted (open_count (group_at (table_of m) g)) (group_nodes (table_of m) g)
  pub written : (before : List Node) (t : Node) (after : List Node) → block_nodes m ≡ before ++ (t ∷ after) → b ≡ suc (length before)
      → (p q : ℕ) → p ≤ t.a → q ≤ t.b
      → take (length (flat_map clause_text (dropped t p q))) (drop (place_of t p q) buf) ≡ flat_map clause_text (dropped t p q)
