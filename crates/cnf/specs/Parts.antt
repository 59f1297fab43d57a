-- The parts that the block writer's functions write, as texts of the definitions' clauses. Assumes nothing.
use Rattle.std.specs.Prelude.{ℕ, suc, ◌+◌, ◌≤◌, ◌<◌, Bool, true, false, cond, List, [], ◌∷◌, map, eqb, length, get_or}
use Rattle.model.specs.declared.Literal.{Literal}
use Rattle.model.specs.declared.Literal.TheVariants.{Pos, Neg}
use Rattle.model.specs.declared.Term.{Term}
use Rattle.model.specs.declared.Node.{Node}
use Rattle.model.specs.declared.Group.{Group}
use Rattle.model.specs.declared.Model.{Model}
use Rattle.std.specs.List.{flat_map}
use Rattle.model.specs.Lists.{range}
use Rattle.model.specs.Limits.{limits}
use Rattle.model.specs.Clauses.{member_clauses}
use Rattle.model.specs.Cnf.{open_count, at_least, at_most}
use Rattle.model.specs.Totalizer.{dropped, shape, nodes, unit, totalizer_blocks}
use Rattle.model.specs.Text.{clause_text, block_text, block_refusal}
use Rattle.encoding_laws.specs.Division.{nodes_of}
use Rattle.terms.specs.declared.Member.{Member}
use Rattle.text.specs.Put.{kept_text}
use Rattle.terms.specs.Terms.{member_number, clause_terms}
use Rattle.cnf.specs.declared.totalizer.Terms.{Terms}

-- ---- a node

-- a clause that is put in
abbrev pub terms_of : Terms → List Term
terms_of x = x.c ∷ x.d ∷ x.n ∷ []

-- the text of what the steps leave at p and q, of a row, of the node
unfoldable pub pair_text : Node → ℕ → ℕ → List ℕ
pair_text t p q = flat_map clause_text (dropped t p q)

unfoldable pub row_text : Node → ℕ → List ℕ
row_text t p = flat_map (pair_text t p) (range 0 (t.b + 1))

unfoldable pub node_text : Node → List ℕ
node_text t = flat_map (row_text t) (range 0 (t.a + 1))

-- ---- a tree's nodes and units

-- what stands for a node that a tree does not have
abbrev pub zero_node : Node
zero_node = record { c = 0; a = 0; d = 0; b = 0; n = 0 }

-- node k of the tree of size m, in the tree's order from 0
unfoldable pub node_at : ℕ → ℕ → ℕ → ℕ → Node
node_at m v o k = get_or (nodes (shape m) v o) k zero_node

-- a literal by its sign
abbrev pub signed : Bool → ℕ → Literal
signed true v = Pos v
signed false v = Neg v

unfoldable pub unit_text : Bool → ℕ → ℕ → List ℕ
unit_text s first i = clause_text (unit (signed s) first i)

-- block k of a tree of size m, its variables from v on and the outputs from o on, with the units of L and U in the root's
unfoldable pub tree_text : ℕ → ℕ → ℕ → ℕ → ℕ → ℕ → List ℕ
tree_text m v o L U k = flat_map clause_text (get_or (totalizer_blocks m v o L U) k [])

-- none of its blocks has more bytes
abbrev pub NoLonger : ℕ → ℕ → ℕ → ℕ → ℕ → ℕ → Type 0
NoLonger most m v o L U = (k : ℕ) → k + 2 ≤ m → length (tree_text m v o L U k) ≤ most

-- block k of a group, its variables from v on and the outputs from o on
unfoldable pub group_block_text : Group → ℕ → ℕ → ℕ → List ℕ
group_block_text g v o k = flat_map clause_text (get_or (totalizer_blocks (open_count g) v o (at_least g) (at_most g)) k [])

-- none of its blocks has more bytes
abbrev pub NoneLonger : ℕ → Group → ℕ → ℕ → Type 0
NoneLonger most g v o = (k : ℕ) → k < nodes_of g → length (group_block_text g v o k) ≤ most

-- ---- a constraint

-- the clauses of an entrant, where the members' numbers are ns, and of the first n entrants
unfoldable pub entrant_text : List ℕ → ℕ → ℕ → List ℕ
entrant_text ns code count = flat_map (λ j. kept_text (clause_terms ns code count j)) (range 0 (length (member_clauses code count)))

unfoldable pub constraint_text : List Member → ℕ → ℕ → ℕ → List ℕ
constraint_text ms code count n = flat_map (λ e. entrant_text (map (member_number e) ms) code count) (range 0 n)

-- the k variables from `first` on are among those that a listing may have
abbrev pub Among : ℕ → ℕ → Type 0
Among first k = first + k ≤ suc limits.variables

-- a node whose outputs are
pub record Small (t : Node) : Type 0 where
  pub lefts : Among t.c t.a
  pub rights : Among t.d t.b
  pub owns : Among t.n (t.a + t.b)

-- ---- a model that may be listed

-- "A written block returns its length", a refused one none
unfoldable pub block_length : Model → ℕ → ℕ → ℕ
block_length m b room = cond (eqb (block_refusal m b room) 0) (length (block_text m b)) 0
