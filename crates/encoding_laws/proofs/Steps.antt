-- What stands at each p and q of each node of a block is what the three steps leave there. Assumes nothing.
use mathlib.Core.Path.{◌≡◌, refl, sym, ap, ◌∙◌, subst}
use mathlib.Core.Bool.{Bool, true, false, cond}
use mathlib.Core.List.{List, [], ◌∷◌, ◌++◌, map, append_assoc, append-nil}
use Prim.Native.Nat.{ℕ, zero, suc, ◌+◌, ◌-◌, ◌/◌, ◌≤◌, ◌<◌}
use native.Mathlib.Nat.{zero-add, le_refl}
use native.Mathlib.Omega.{arith}
use native.Mathlib.Decide.{dec_le}
use borrow.Author.Tests.{ne_eqb}
use lib.Dec.{T, eqb}
use lib.ListN.{length, get_or, take, drop}
use lib.Seq.{take_at, drop_at}
use Rattle.model.specs.declared.Literal.{Literal}
use Rattle.model.specs.declared.Group.{Group}
use Rattle.model.specs.declared.Node.{Node}
use Rattle.model.specs.declared.Model.{Model}
use Rattle.std.specs.List.{flat_map}
use Rattle.model.specs.Lists.{range}
use Rattle.model.specs.Model.{group_at, table_of}
use Rattle.model.specs.Totalizer.{dropped, row_clauses, node_clauses, Shape, leaf, node, shape_in, shape, leaves, outputs, node_over, nodes, root_output, unit_clauses, tree_blocks, totalizer_blocks}
use Rattle.model.specs.Cnf.{open_count, at_least, at_most, counted, first_variable, first_output, group_blocks, node_blocks}
use Rattle.model.specs.Text.{clause_text, block_text}
use Rattle.model.proofs.Lists.{each_append, range-append, All, all_both, all-imp}
use Rattle.encoding_laws.specs.Steps.{group_nodes, block_nodes, NodeOf, Rooted, earlier, place_of, BySteps}
use Rattle.encoding_laws.proofs.Totalizer.{shape_in-step, shape_in-one, leaves-shape_in, leaves-shape, shape-step}
use Rattle.encoding_laws.proofs.Blocks.{node_block}

-- ---- the nodes of a tree

-- a node of a tree is one of a larger tree
pub node_wider : (k m : ℕ) → k ≤ m → (t : Node) → NodeOf k t → NodeOf m t
node_wider k m l t n = record { two = n.two; most = omega (arith, n.most); half = n.half }

nodes_in : (f m v o : ℕ) → m ≤ f → All (NodeOf m) (nodes (shape_in f m) v o)
unfolding nodes
nodes_in zero m v o h = rw (shape_in-one zero m (omega arith)) tt
nodes_in (suc f) m v o h = go (dec_le 2 m) (λ v o l. nodes_in f (m / 2) v o l) (λ v o l. nodes_in f (m - m / 2) v o l)
  where
    go : Dec (2 ≤ m) → ((v o : ℕ) → m / 2 ≤ f → All (NodeOf (m / 2)) (nodes (shape_in f (m / 2)) v o))
        → ((v o : ℕ) → m - m / 2 ≤ f → All (NodeOf (m - m / 2)) (nodes (shape_in f (m - m / 2)) v o)) → All (NodeOf m) (nodes (shape_in (suc f) m) v o)
    go (no k) l r = rw (shape_in-one (suc f) m (omega arith)) tt
    go (yes k) l r =
        let x = shape_in f (m / 2) in
        let y = shape_in f (m - m / 2) in
        let w : ℕ = v + leaves x in
        let n : ℕ = o + outputs x in
        let ex : leaves x ≡ m / 2 = leaves-shape_in f (m / 2) (omega arith) (omega arith) in
        let ey : leaves y ≡ m - m / 2 = leaves-shape_in f (m - m / 2) (omega arith) (omega arith) in
        rw (shape_in-step f m k)
        ((all_both (NodeOf m) (nodes x v o ++ nodes y w n) (node_over x y v o ∷ [])).1 (
          (all_both (NodeOf m) (nodes x v o) (nodes y w n)).1 (
            all-imp (NodeOf (m / 2)) (NodeOf m) (node_wider (m / 2) m (omega arith)) (nodes x v o) (l v o (omega arith)),
            all-imp (NodeOf (m - m / 2)) (NodeOf m) (node_wider (m - m / 2) m (omega arith)) (nodes y w n) (r w n (omega arith)),
          ),
          (record { two = omega (arith, ex, ey); most = omega (arith, ex, ey); half = omega (arith, ex, ey) }, tt),
        ))

pub tree_nodes : (m v o : ℕ) → All (NodeOf m) (nodes (shape m) v o)
unfolding shape
tree_nodes m v o = nodes_in m m v o (le_refl m)

-- a tree has a node of its own size, the last one
tree_root : (m v o : ℕ) → 2 ≤ m → Rooted m (nodes (shape m) v o)
unfolding nodes
tree_root m v o h =
    let x = shape (m / 2) in
    let y = shape (m - m / 2) in
    let ex : leaves x ≡ m / 2 = leaves-shape (m / 2) (omega arith) in
    let ey : leaves y ≡ m - m / 2 = leaves-shape (m - m / 2) (omega arith) in
    record {
      before = nodes x v o ++ nodes y (v + leaves x) (o + outputs x);
      root = node_over x y v o;
      last = ap (λ (s : Shape). nodes s v o) (shape-step m h);
      whole = omega arith;
    }

-- ---- a node's clauses, divided at p and q

each_at : {B : Type 0} (f : ℕ → List B) (k n : ℕ) → k ≤ n → flat_map f (range 0 (suc n)) ≡ flat_map f (range 0 k) ++ (f k ++ flat_map f (range (suc k) (n - k)))
each_at f k n h =
    let e : suc n ≡ k + suc (n - k) = omega arith in
    ap (λ (i : ℕ). flat_map f (range 0 i)) e
    ∙ ap (flat_map f) (range-append 0 k (suc (n - k)))
    ∙ each_append f (range 0 k) (range (0 + k) (suc (n - k)))
    ∙ ap (λ (i : ℕ). flat_map f (range 0 k) ++ (f i ++ flat_map f (range (suc i) (n - k)))) (zero-add k)

-- the node's clauses after those of p and q
abbrev later : Node → ℕ → ℕ → List (List Literal)
later t p q = flat_map (dropped t p) (range (suc q) (t.b - q)) ++ flat_map (row_clauses t) (range (suc p) (t.a - p))

regroup : {A : Type 0} (r q l q' r' : List A) → r ++ ((q ++ (l ++ q')) ++ r') ≡ (r ++ q) ++ (l ++ (q' ++ r'))
regroup r q l q' r' = simp append_assoc refl

node_at_lem : (t : Node) (p q : ℕ) → p ≤ t.a → q ≤ t.b → node_clauses t ≡ earlier t p q ++ (dropped t p q ++ later t p q)
unfolding node_clauses row_clauses earlier
node_at_lem t p q hp hq =
    each_at (row_clauses t) p t.a hp
    ∙ ap (λ (x : List (List Literal)). flat_map (row_clauses t) (range 0 p) ++ (x ++ flat_map (row_clauses t) (range (suc p) (t.a - p))))
    (each_at (dropped t p) q t.b hq)
    ∙ regroup (flat_map (row_clauses t) (range 0 p)) (flat_map (dropped t p) (range 0 q)) (dropped t p q) (flat_map (dropped t p) (range (suc q) (t.b - q)))
    (flat_map (row_clauses t) (range (suc p) (t.a - p)))

-- ---- each block starts with its node's clauses

abbrev Starts : Node → List (List Literal) → Type 0
Starts t b = (units : List (List Literal)) × (b ≡ node_clauses t ++ units)

abbrev Over : List Node → List (List (List Literal)) → Type 0
Over [] [] = Unit
Over [] (b ∷ bs) = ⊥
Over (t ∷ ts) [] = ⊥
Over (t ∷ ts) (b ∷ bs) = Starts t b × Over ts bs

over-append : (ts us : List Node) (bs cs : List (List (List Literal))) → Over ts bs → Over us cs → Over (ts ++ us) (bs ++ cs)
over-append [] us [] cs h k = k
over-append [] us (b ∷ bs) cs h k = absurd h
over-append (t ∷ ts) us [] cs h k = absurd h
over-append (t ∷ ts) us (b ∷ bs) cs h k = (h.0, over-append ts us bs cs h.1 k)

over-map : (ts : List Node) → Over ts (map node_clauses ts)
over-map [] = tt
over-map (t ∷ ts) = (([], sym (append-nil (node_clauses t))), over-map ts)

over_tree : (s : Shape) (v o : ℕ) (units : List (List Literal)) → Over (nodes s v o) (tree_blocks s v o units)
unfolding nodes tree_blocks
over_tree leaf v o units = tt
over_tree (node l r) v o units =
    let ns = nodes l v o ++ nodes r (v + leaves l) (o + outputs l) in
    over-append ns (node_over l r v o ∷ []) (map node_clauses ns) ((node_clauses (node_over l r v o) ++ units) ∷ []) (over-map ns) ((units, refl), tt)

over-group : (t : List Group) (g : ℕ) → Over (group_nodes t g) (group_blocks t g)
unfolding group_nodes group_blocks totalizer_blocks
over-group t g = go (counted r)
  where
    r : Group
    r = group_at t g

    ns : List Node
    ns = nodes (shape (open_count r)) (first_variable t g) (first_output t g)

    us : List (List Literal)
    us = unit_clauses (root_output (shape (open_count r)) (first_variable t g) (first_output t g)) (open_count r) (at_least r) (at_most r)

    go : (b : Bool) → Over (cond b ns []) (cond b (tree_blocks (shape (open_count r)) (first_variable t g) (first_output t g) us) [])
    go true = over_tree (shape (open_count r)) (first_variable t g) (first_output t g) us
    go false = tt

over-groups : (t : List Group) (gs : List ℕ) → Over (flat_map (group_nodes t) gs) (flat_map (group_blocks t) gs)
over-groups t [] = tt
over-groups t (g ∷ gs) = over-append (group_nodes t g) (flat_map (group_nodes t) gs) (group_blocks t g) (flat_map (group_blocks t) gs) (over-group t g) (over-groups t gs)

over-at : (before : List Node) (t : Node) (after : List Node) (bs : List (List (List Literal))) → Over (before ++ (t ∷ after)) bs
    → (length before < length bs) × Starts t (get_or bs (length before) [])
over-at [] t after [] h = absurd h
over-at [] t after (b ∷ bs) h = (omega arith, h.0)
over-at (u ∷ before) t after [] h = absurd h
over-at (u ∷ before) t after (b ∷ bs) h = let k = over-at before t after bs h.1 in (omega (arith, k.0), k.1)

-- ---- a block

at_place : {A : Type 0} (x l y z : List A) → take (length l) (drop (length x) ((x ++ (l ++ y)) ++ z)) ≡ l
at_place x l y z =
    ap (λ (w : List _). take (length l) (drop (length x) w)) (append_assoc x (l ++ y) z ∙ ap (λ (w : List _). x ++ w) (append_assoc l y z))
    ∙ ap (take (length l)) (drop_at x (l ++ (y ++ z)) (length x) refl)
    ∙ take_at l (y ++ z) (length l) refl

text-parts : (x l y : List (List Literal)) → flat_map clause_text (x ++ (l ++ y)) ≡ flat_map clause_text x ++ (flat_map clause_text l ++ flat_map clause_text y)
text-parts x l y = each_append clause_text x (l ++ y) ∙ ap (λ (w : List ℕ). flat_map clause_text x ++ w) (each_append clause_text l y)

module _ (m : Model) where
  group-sizes : (g : ℕ) → All (NodeOf (open_count (group_at (table_of m) g))) (group_nodes (table_of m) g)
  unfolding group_nodes
  group-sizes g = go (counted r)
    where
      r : Group
      r = group_at (table_of m) g

      go : (b : Bool) → All (NodeOf (open_count r)) (cond b (nodes (shape (open_count r)) (first_variable (table_of m) g) (first_output (table_of m) g)) [])
      go true = tree_nodes (open_count r) (first_variable (table_of m) g) (first_output (table_of m) g)
      go false = tt

  group-root : (g : ℕ) → T (counted (group_at (table_of m) g)) → 2 ≤ open_count (group_at (table_of m) g)
      → Rooted (open_count (group_at (table_of m) g)) (group_nodes (table_of m) g)
  unfolding group_nodes
  group-root g is two = go (counted r) is
    where
      r : Group
      r = group_at (table_of m) g

      go : (b : Bool) → T b → Rooted (open_count r) (cond b (nodes (shape (open_count r)) (first_variable (table_of m) g) (first_output (table_of m) g)) [])
      go true t = tree_root (open_count r) (first_variable (table_of m) g) (first_output (table_of m) g) two
      go false t = absurd t

  block-text : (b : ℕ) → 1 ≤ b → b ≤ length (node_blocks m) → block_text m b ≡ flat_map clause_text (get_or (node_blocks m) (b - 1) [])
  unfolding block_text
  block-text b one top = let z : eqb b 0 ≡ false = ne_eqb b 0 (λ e. omega arith) in rw z (ap (flat_map clause_text) (node_block m b top))

  block_written : (b : ℕ) (tail : List ℕ) (before : List Node) (t : Node) (after : List Node) → block_nodes m ≡ before ++ (t ∷ after) → b ≡ suc (length before)
      → (p q : ℕ) → p ≤ t.a → q ≤ t.b
      → take (length (flat_map clause_text (dropped t p q))) (drop (place_of t p q) (block_text m b ++ tail)) ≡ flat_map clause_text (dropped t p q)
  unfolding block_nodes node_blocks place_of
  block_written b tail before t after e here p q hp hq =
      let h = over-at before t after (node_blocks m) (subst (λ (ns : List Node). Over ns (node_blocks m)) e (over-groups (table_of m) (range 1 m.s))) in
      let units = h.1.0 in
      let x = earlier t p q in
      let l = dropped t p q in
      let y = later t p q ++ units in
      let at : b - 1 ≡ length before = omega arith in
      let is : get_or (node_blocks m) (b - 1) [] ≡ x ++ (l ++ y) =
      ap (λ (i : ℕ). get_or (node_blocks m) i []) at ∙ h.1.1 ∙ ap (λ (c : List (List Literal)). c ++ units) (node_at_lem t p q hp hq) ∙ simp append_assoc refl in
      ap (λ (w : List ℕ). take (length (flat_map clause_text l)) (drop (length (flat_map clause_text x)) (w ++ tail)))
      (block-text b (omega arith) (omega (arith, h.0)) ∙ ap (flat_map clause_text) is ∙ text-parts x l y)
      ∙ at_place (flat_map clause_text x) (flat_map clause_text l) (flat_map clause_text y) tail

  -- whatever stands after the block's text
  pub by-steps : (b : ℕ) (tail : List ℕ) → BySteps m b (block_text m b ++ tail)
  by-steps b tail = record { sizes = group-sizes; rooted = group-root; written = block_written b tail }
