-- The listing by blocks: those of a totalizer put together are its clauses, how many there are, and which node one is. Assumes nothing.
use mathlib.Core.Path.{◌≡◌, refl, sym, ap, ap₂, ◌∙◌, subst}
use mathlib.Core.Bool.{Bool, true, false, cond}
use mathlib.Core.List.{List, [], ◌∷◌, ◌++◌, map, append_assoc, append-nil}
use Prim.Native.Nat.{ℕ, zero, suc, ◌+◌, ◌-◌, ◌/◌, ◌≤◌, ◌<◌}
use native.Mathlib.Nat.{zero-add, add_assoc}
use native.Mathlib.Omega.{arith}
use native.Mathlib.Decide.{dec_le, dec_lt}
use borrow.Author.Tests.{le-leb, lt-leb, eq-eqb, ne_eqb}
use lib.Dec.{T, eqb, ltb, ltb→lt}
use lib.Arith.{le→nltb}
use lib.ListN.{length, get_or, take, length-append, length-map, get_or-append}
use lib.Seq.{get_or-append-add, get_or_at}
use Rattle.model.specs.declared.Literal.{Literal}
use Rattle.model.specs.declared.Node.{Node}
use Rattle.model.specs.declared.Group.{Group}
use Rattle.model.specs.declared.Model.{Model}
use Rattle.std.specs.List.{flat_map}
use Rattle.model.specs.Lists.{total, range}
use Rattle.model.specs.Words.{size}
use Rattle.model.specs.Model.{zero_group, group_at, table_of, constraints_of, Sized}
use Rattle.model.specs.Propagate.{Settled}
use Rattle.model.specs.Totalizer.{node_clauses, Shape, leaf, node, shape, leaves, outputs, root_output, node_over, nodes, unit_clauses, tree_blocks, totalizer_blocks, tree_output_count}
use Rattle.model.specs.Cnf.{open_of, open_count, at_least, at_most, counted, first_variable, first_output, table_variables, group_blocks, constraint_clauses, line_clauses, node_blocks, block_count, block_clauses, clauses, group_clause_count, clause_count}
use Rattle.model.proofs.Words.{size_less}
use Rattle.model.proofs.Lists.{T_false, each_append, each-each, each_map, each-range_ext, get_or-map_in, length-each, range-append, range-get_or, range_length, total_ext, total-map, total-place, all-place, places}
use Rattle.propagation_laws.proofs.GroupRule.{SettledGroup}
use Rattle.encoding_laws.specs.Division.{nodes_of, first_block, tree_clauses, totalizer_clauses, group_clauses, clauses_by_group}
use Rattle.encoding_laws.proofs.Totalizer.{leaves-shape, shape-step, shape_one}
use Rattle.encoding_laws.proofs.Counts.{outputs-count, group-length}
use Rattle.encoding_laws.proofs.Groups.{over_constraints, table-length, groups-places, lines-parts, constraints-counted}
use Rattle.encoding_laws.proofs.Fixpoint.{SettledAmong, table-settled}

-- ---- a tree's nodes

-- one less than leaves
pub nodes-length : (s : Shape) (v o : ℕ) → suc (length (nodes s v o)) ≡ leaves s
unfolding nodes
nodes-length leaf v o = refl
nodes-length (node l r) v o =
    let w : ℕ = v + leaves l in
    let k : ℕ = o + outputs l in
    omega (
      arith,
      length-append (nodes l v o ++ nodes r w k) (node_over l r v o ∷ []),
      length-append (nodes l v o) (nodes r w k),
      nodes-length l v o,
      nodes-length r w k,
    )

module _ (m v o : ℕ) (two : 2 ≤ m) where
  abbrev lefts : List Node
  lefts = nodes (shape (m / 2)) v o

  abbrev rights : List Node
  rights = nodes (shape (m - m / 2)) (v + m / 2) (o + tree_output_count (m / 2))

  -- the node over both halves
  abbrev pub root_of : Node
  root_of = record {
    c = root_output (shape (m / 2)) v o;
    a = m / 2;
    d = root_output (shape (m - m / 2)) (v + m / 2) (o + tree_output_count (m / 2));
    b = m - m / 2;
    n = o + tree_output_count (m / 2) + tree_output_count (m - m / 2);
  }

  left-leaves : leaves (shape (m / 2)) ≡ m / 2
  left-leaves = leaves-shape (m / 2) (omega arith)

  right-leaves : leaves (shape (m - m / 2)) ≡ m - m / 2
  right-leaves = leaves-shape (m - m / 2) (omega arith)

  nodes-step : nodes (shape m) v o ≡ lefts ++ rights ++ (root_of ∷ [])
  unfolding nodes
  nodes-step = rw (shape-step m two) (rw (left-leaves, right-leaves, outputs-count (m / 2), outputs-count (m - m / 2)))

  left-count : suc (length lefts) ≡ m / 2
  left-count = nodes-length (shape (m / 2)) v o ∙ left-leaves

  right-count : suc (length rights) ≡ m - m / 2
  right-count = nodes-length (shape (m - m / 2)) (v + m / 2) (o + tree_output_count (m / 2)) ∙ right-leaves

  both-count : length (lefts ++ rights) ≡ m - 2
  both-count = omega (arith, length-append lefts rights, left-count, right-count)

  -- node k, in tree order from 0: of the left half, of the right half, or the root
  pub node-left : (k : ℕ) (d : Node) → k + 1 < m / 2 → get_or (nodes (shape m) v o) k d ≡ get_or lefts k d
  node-left k d h =
      ap (λ (ns : List Node). get_or ns k d) nodes-step
      ∙ get_or-append (lefts ++ rights) (root_of ∷ []) d k (omega (arith, both-count))
      ∙ get_or-append lefts rights d k (omega (arith, left-count))

  pub node-right : (k : ℕ) (d : Node) → m / 2 ≤ k + 1 → k + 2 < m → get_or (nodes (shape m) v o) k d ≡ get_or rights (k + 1 - m / 2) d
  node-right k d h l =
      let e : k ≡ length lefts + (k + 1 - m / 2) = omega (arith, left-count) in
      ap (λ (ns : List Node). get_or ns k d) nodes-step
      ∙ get_or-append (lefts ++ rights) (root_of ∷ []) d k (omega (arith, both-count))
      ∙ ap (λ (j : ℕ). get_or (lefts ++ rights) j d) e
      ∙ get_or-append-add lefts rights (k + 1 - m / 2) d

  pub node-root : (k : ℕ) (d : Node) → k + 2 ≡ m → get_or (nodes (shape m) v o) k d ≡ root_of
  node-root k d h = ap (λ (ns : List Node). get_or ns k d) nodes-step ∙ get_or_at (lefts ++ rights) root_of [] d k (omega (arith, both-count))

-- ---- a totalizer's blocks

-- blocks put together
abbrev pub joined : List (List (List Literal)) → List (List Literal)
joined bs = flat_map (λ b. b) bs

-- of at least two leaves: of one the units would stand in no block
pub totalizer_joined : (m v o L U : ℕ) → 2 ≤ m → joined (totalizer_blocks m v o L U) ≡ totalizer_clauses m v o L U
unfolding totalizer_blocks totalizer_clauses tree_clauses tree_blocks nodes
totalizer_joined m v o L U h = rw (shape-step m h) (go (shape (m / 2)) (shape (m - m / 2)))
  where
    go : (l r : Shape) → joined (tree_blocks (node l r) v o (unit_clauses (root_output (node l r) v o) m L U))
        ≡ flat_map node_clauses (nodes (node l r) v o) ++ unit_clauses (root_output (node l r) v o) m L U
    go l r =
        let us = unit_clauses (root_output (node l r) v o) m L U in
        let ns = nodes l v o ++ nodes r (v + leaves l) (o + outputs l) in
        let own = node_clauses (node_over l r v o) in
        each_append (λ b. b) (map node_clauses ns) ((own ++ us) ∷ [])
        ∙ ap₂ (λ (x y : List (List Literal)). x ++ y) (each_map (λ b. b) node_clauses ns) (append-nil (own ++ us))
        ∙ sym (append_assoc (flat_map node_clauses ns) own us)
        ∙ ap (λ (x : List (List Literal)). x ++ us)
        (sym (each_append node_clauses ns (node_over l r v o ∷ []) ∙ ap (λ (x : List (List Literal)). flat_map node_clauses ns ++ x) (append-nil own)))

-- block k: node k's clauses, and the units in the root's
unfoldable pub units_at : ℕ → ℕ → List (List Literal) → List (List Literal)
units_at m k units = cond (eqb (k + 2) m) units []

module _ (m v o L U : ℕ) where
  abbrev us : List (List Literal)
  us = unit_clauses (root_output (shape m) v o) m L U

  pub totalizer-block : (k : ℕ) (d : Node) → k + 2 ≤ m
      → get_or (totalizer_blocks m v o L U) k [] ≡ node_clauses (get_or (nodes (shape m) v o) k d) ++ units_at m k us
  unfolding totalizer_blocks tree_blocks nodes units_at
  totalizer-block k d h =
      rw (shape-step m (omega arith))
      (go (shape (m / 2)) (shape (m - m / 2)) (omega (arith, leaves-shape (m / 2) (omega arith), leaves-shape (m - m / 2) (omega arith))) (dec_lt (k + 2) m))
    where
      go : (l r : Shape) → leaves l + leaves r ≡ m → Dec (k + 2 < m)
          → get_or (tree_blocks (node l r) v o (unit_clauses (root_output (node l r) v o) m L U)) k []
          ≡ node_clauses (get_or (nodes (node l r) v o) k d) ++ cond (eqb (k + 2) m) (unit_clauses (root_output (node l r) v o) m L U) []
      go l r e below = by below
        where
          units : List (List Literal)
          units = unit_clauses (root_output (node l r) v o) m L U

          ns : List Node
          ns = nodes l v o ++ nodes r (v + leaves l) (o + outputs l)

          count : length ns ≡ m - 2
          count =
              omega (
                arith,
                length-append (nodes l v o) (nodes r (v + leaves l) (o + outputs l)),
                nodes-length l v o,
                nodes-length r (v + leaves l) (o + outputs l),
                e,
              )

          by : Dec (k + 2 < m)
              → get_or (map node_clauses ns ++ ((node_clauses (node_over l r v o) ++ units) ∷ [])) k []
              ≡ node_clauses (get_or (ns ++ (node_over l r v o ∷ [])) k d) ++ cond (eqb (k + 2) m) units []
          by (yes b) =
              let z : eqb (k + 2) m ≡ false = ne_eqb (k + 2) m (λ q. omega arith) in
              rw z
              (get_or-append (map node_clauses ns) ((node_clauses (node_over l r v o) ++ units) ∷ []) [] k (omega (arith, length-map ns node_clauses, count))
              ∙ get_or-map_in node_clauses ns k d [] (omega (arith, count))
              ∙ ap node_clauses (sym (get_or-append ns (node_over l r v o ∷ []) d k (omega (arith, count))))
              ∙ sym (append-nil (node_clauses (get_or (ns ++ (node_over l r v o ∷ [])) k d))))
          by (no b) =
              let z : eqb (k + 2) m ≡ true = eq-eqb (k + 2) m (omega arith) in
              rw z
              (get_or_at (map node_clauses ns) (node_clauses (node_over l r v o) ++ units) [] [] k (omega (arith, length-map ns node_clauses, count))
              ∙ ap (λ (t : Node). node_clauses t ++ units) (sym (get_or_at ns (node_over l r v o) [] d k (omega (arith, count)))))

  pub totalizer-blocks : length (totalizer_blocks m v o L U) ≡ m - 1
  unfolding totalizer_blocks tree_blocks nodes
  totalizer-blocks = go (dec_le 2 m)
    where
      tree : (s : Shape) → length (tree_blocks s v o us) ≡ length (nodes s v o)
      tree leaf = refl
      tree (node l r) =
          let ns = nodes l v o ++ nodes r (v + leaves l) (o + outputs l) in
          length-append (map node_clauses ns) ((node_clauses (node_over l r v o) ++ us) ∷ [])
          ∙ ap (λ (k : ℕ). k + 1) (length-map ns node_clauses)
          ∙ sym (length-append ns (node_over l r v o ∷ []))

      go : Dec (2 ≤ m) → length (tree_blocks (shape m) v o us) ≡ m - 1
      go (yes h) = omega (arith, tree (shape m), nodes-length (shape m) v o, leaves-shape m (omega arith))
      go (no h) =
          let e : suc (length (nodes (shape m) v o)) ≡ 1 = nodes-length (shape m) v o ∙ ap leaves (shape_one m (omega arith)) in
          omega (arith, tree (shape m), e)

-- ---- a group's blocks

pub group_blocks_lem : (t : List Group) (g : ℕ) → length (group_blocks t g) ≡ nodes_of (group_at t g)
unfolding group_blocks nodes_of
group_blocks_lem t g = go (counted r)
  where
    r : Group
    r = group_at t g

    go : (b : Bool) → length (cond b (totalizer_blocks (open_count r) (first_variable t g) (first_output t g) (at_least r) (at_most r)) []) ≡ cond b (open_count r - 1) 0
    go true = totalizer-blocks (open_count r) (first_variable t g) (first_output t g) (at_least r) (at_most r)
    go false = refl

-- in a settled table a counter has at least two open entrants
pub counted-two : (r : Group) → SettledGroup r → T (counted r) → 2 ≤ open_count r
unfolding counted at_least at_most open_count open_of
counted-two r s t = go (dec_le 2 (open_count r)) (dec_le (size r.possible) r.low)
  where
    e : open_count r + size r.fixed ≡ size r.possible
    e = size_less r.possible r.fixed s.fits

    -- no open entrant, no totalizer
    none : size r.possible ≡ size r.fixed → ⊥
    none q =
        let u = ltb→lt (at_most r) (open_count r) (rw (T_false (ltb 0 (at_least r)) (le→nltb 0 (at_least r) (omega (arith, s.least, s.order, s.most)))) at t) in
        omega (arith, e)

    go : Dec (2 ≤ open_count r) → Dec (size r.possible ≤ r.low) → 2 ≤ open_count r
    go (yes h) d = h
    go (no h) (yes d) = absurd (none (ap size (s.needed (omega (arith, s.order, s.most)))))
    go (no h) (no d) =
        let u = ltb→lt (at_most r) (open_count r) (rw (T_false (ltb 0 (at_least r)) (le→nltb 0 (at_least r) (omega (arith, e)))) at t) in
        absurd (none (ap size (s.full (omega (arith, e, s.least, s.order)))))

-- all blocks of a group put together are its totalizer's clauses
pub group-joined : (t : List Group) (g : ℕ) → SettledGroup (group_at t g) → joined (group_blocks t g) ≡ group_clauses t g
unfolding group_blocks group_clauses
group-joined t g s = go (counted r) refl
  where
    r : Group
    r = group_at t g

    go : (b : Bool) → counted r ≡ b
        → joined (cond b (totalizer_blocks (open_count r) (first_variable t g) (first_output t g) (at_least r) (at_most r)) [])
        ≡ cond b (totalizer_clauses (open_count r) (first_variable t g) (first_output t g) (at_least r) (at_most r)) []
    go true c = totalizer_joined (open_count r) (first_variable t g) (first_output t g) (at_least r) (at_most r) (counted-two r s (subst T (sym c) tt))
    go false c = refl

-- ---- the listing's blocks, by number

pub line-block : (m : Model) (b : ℕ) → length (node_blocks m) < b → block_clauses m b ≡ line_clauses m (b - length (node_blocks m))
unfolding block_clauses
line-block m b h = rw (lt-leb b (length (node_blocks m)) h)

pub node_block : (m : Model) (b : ℕ) → b ≤ length (node_blocks m) → block_clauses m b ≡ get_or (node_blocks m) (b - 1) []
unfolding block_clauses
node_block m b h = rw (le-leb b (length (node_blocks m)) h)

module _ (m : Model) (z : Sized m) where
  -- how many blocks the groups have
  pub node-blocks : length (node_blocks m) ≡ total nodes_of (table_of m)
  unfolding node_blocks
  node-blocks =
      length-each (group_blocks (table_of m)) (range 1 m.s)
      ∙ total_ext (λ g. length (group_blocks (table_of m) g)) (λ g. nodes_of (group_at (table_of m) g)) (group_blocks_lem (table_of m)) (range 1 m.s)
      ∙ sym (total-map nodes_of (group_at (table_of m)) (range 1 m.s))
      ∙ ap (total nodes_of) (groups-places m z)

  -- a group's blocks are among them
  pub last_block : (g : ℕ) → 1 ≤ g → g ≤ m.s → total nodes_of (take (g - 1) (table_of m)) + nodes_of (group_at (table_of m) g) ≤ length (node_blocks m)
  unfolding group_at
  last_block g one top = omega (arith, total-place nodes_of (table_of m) (g - 1) zero_group (omega (arith, table-length m z)), node-blocks)

-- element k of what f makes of element i
each_at : {A B : Type 0} (f : A → List B) (xs : List A) (i k : ℕ) (x : A) (d : B) → i < length xs → k < length (f (get_or xs i x))
    → get_or (flat_map f xs) (total (λ y. length (f y)) (take i xs) + k) d ≡ get_or (f (get_or xs i x)) k d
each_at f [] i k x d h l = absurd (omega arith)
each_at f (y ∷ ys) zero k x d h l = ap (λ (j : ℕ). get_or (f y ++ flat_map f ys) j d) (zero-add k) ∙ get_or-append (f y) (flat_map f ys) d k l
each_at f (y ∷ ys) (suc i) k x d h l =
    ap (λ (j : ℕ). get_or (f y ++ flat_map f ys) j d) (add_assoc (length (f y)) (total (λ z. length (f z)) (take i ys)) k)
    ∙ get_or-append-add (f y) (flat_map f ys) (total (λ z. length (f z)) (take i ys) + k) d
    ∙ each_at f ys i k x d (omega arith) l

take-map : {A B : Type 0} (f : A → B) (i : ℕ) (xs : List A) → map f (take i xs) ≡ take i (map f xs)
take-map f zero xs = refl
take-map f (suc i) [] = refl
take-map f (suc i) (x ∷ xs) = ap (λ ys. f x ∷ ys) (take-map f i xs)

module _ (m : Model) (z : Sized m) where
  blocks-before : (i : ℕ) → total (λ g. length (group_blocks (table_of m) g)) (take i (range 1 m.s)) ≡ total nodes_of (take i (table_of m))
  blocks-before i =
      let t = table_of m in
      total_ext (λ g. length (group_blocks t g)) (λ g. nodes_of (group_at t g)) (group_blocks_lem t) (take i (range 1 m.s))
      ∙ sym (total-map nodes_of (group_at t) (take i (range 1 m.s)))
      ∙ ap (total nodes_of) (take-map (group_at t) i (range 1 m.s) ∙ ap (take i) (groups-places m z))

  -- block k of group g, counted from 0
  pub group-block : (g k : ℕ) → 1 ≤ g → g ≤ m.s → k < nodes_of (group_at (table_of m) g)
      → block_clauses m (first_block (table_of m) g + k) ≡ get_or (group_blocks (table_of m) g) k []
  unfolding first_block node_blocks
  group-block g k one top l =
      let t = table_of m in
      let i : ℕ = g - 1 in
      let here : get_or (range 1 m.s) i 0 ≡ g = range-get_or 1 m.s i 0 (omega arith) ∙ omega arith in
      let count : length (group_blocks t (get_or (range 1 m.s) i 0)) ≡ nodes_of (group_at t g) = ap (λ (j : ℕ). length (group_blocks t j)) here ∙ group_blocks_lem t g in
      let before : ℕ = total nodes_of (take i t) in
      let at : 1 + before + k - 1 ≡ total (λ j. length (group_blocks t j)) (take i (range 1 m.s)) + k = omega (arith, blocks-before i) in
      node_block m (1 + before + k) (omega (arith, last_block m z g one top, l))
      ∙ ap (λ (j : ℕ). get_or (flat_map (group_blocks t) (range 1 m.s)) j []) at
      ∙ each_at (group_blocks t) (range 1 m.s) i k 0 [] (omega (arith, range_length 1 m.s)) (omega (arith, count))
      ∙ ap (λ (j : ℕ). get_or (group_blocks t j) k []) here

-- ---- all blocks together

module _ (m : Model) (q : Settled m) where
  pub group-whole : (g : ℕ) → 1 ≤ g → g ≤ m.s → joined (group_blocks (table_of m) g) ≡ group_clauses (table_of m) g
  unfolding group_at
  group-whole g one top =
      group-joined (table_of m) g
      (all-place (SettledAmong m.n) zero_group (table_of m) (table-settled m q) (g - 1) (omega (arith, table-length m q.sized))).group

  groups-whole : flat_map (λ g. joined (group_blocks (table_of m) g)) (range 1 m.s) ≡ flat_map (group_clauses (table_of m)) (range 1 m.s)
  groups-whole = each-range_ext (λ g. joined (group_blocks (table_of m) g)) (group_clauses (table_of m)) 1 m.s (λ g l h. group-whole g l (omega arith))

  nodes-whole : flat_map (block_clauses m) (range 1 (length (node_blocks m))) ≡ flat_map (group_clauses (table_of m)) (range 1 m.s)
  unfolding node_blocks
  nodes-whole =
      each-range_ext (block_clauses m) (λ b. get_or (node_blocks m) (b - 1) []) 1 (length (node_blocks m)) (λ b l h. node_block m b (omega arith))
      ∙ sym (each_map (λ b. b) (λ b. get_or (node_blocks m) (b - 1) []) (range 1 (length (node_blocks m))))
      ∙ ap joined (places 1 (node_blocks m) [])
      ∙ each-each (λ b. b) (group_blocks (table_of m)) (range 1 m.s)
      ∙ groups-whole

  -- the groups' clauses, then the constraints'
  pub clauses-parts : clauses m
      ≡ flat_map (group_clauses (table_of m)) (range 1 m.s) ++ over_constraints (table_of m) (constraint_clauses m.n (table_of m)) (constraints_of m) (1 + table_variables (table_of m))
  unfolding clauses block_count
  clauses-parts =
      let k = length (node_blocks m) in
      ap (flat_map (block_clauses m)) (range-append 1 k m.c)
      ∙ each_append (block_clauses m) (range 1 k) (range (1 + k) m.c)
      ∙ ap₂ (λ (x y : List (List Literal)). x ++ y) nodes-whole
      (each-range_ext (block_clauses m) (λ b. line_clauses m (b - k)) (1 + k) m.c (λ b l h. line-block m b (omega arith))
      ∙ lines-parts m q.sized k)

  -- C is the number of clauses
  pub clauses-length : length (clauses m) ≡ clause_count m
  unfolding clause_count
  clauses-length =
      let t = table_of m in
      ap length clauses-parts
      ∙ length-append (flat_map (group_clauses t) (range 1 m.s)) (over_constraints t (constraint_clauses m.n t) (constraints_of m) (1 + table_variables t))
      ∙ ap₂ (λ (x y : ℕ). x + y)
      (length-each (group_clauses t) (range 1 m.s)
      ∙ total_ext (λ g. length (group_clauses t g)) (λ g. group_clause_count (group_at t g)) (group-length t) (range 1 m.s)
      ∙ sym (total-map group_clause_count (group_at t) (range 1 m.s))
      ∙ ap (total group_clause_count) (groups-places m q.sized))
      (constraints-counted m.n t (constraints_of m) (1 + table_variables t))

  -- ---- document 01's division has the same clauses

  pub by-group-parts : flat_map (clauses_by_group m) (range 1 (m.s + m.c)) ≡ clauses m
  unfolding clauses_by_group
  by-group-parts =
      ap (flat_map (clauses_by_group m)) (range-append 1 m.s m.c)
      ∙ each_append (clauses_by_group m) (range 1 m.s) (range (1 + m.s) m.c)
      ∙ ap₂ (λ (x y : List (List Literal)). x ++ y)
      (each-range_ext (clauses_by_group m) (group_clauses (table_of m)) 1 m.s (λ g l h. rw (le-leb g m.s (omega arith))))
      (each-range_ext (clauses_by_group m) (λ b. line_clauses m (b - m.s)) (1 + m.s) m.c (λ b l h. rw (lt-leb b m.s (omega arith)))
      ∙ lines-parts m q.sized m.s)
      ∙ sym clauses-parts
