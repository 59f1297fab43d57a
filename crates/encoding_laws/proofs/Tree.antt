-- A tree's clauses hold exactly when its outputs are the unary counts of its leaves. Assumes nothing.
use mathlib.Core.Path.{◌≡◌, refl, sym, ap, ap₂, ◌∙◌, subst}
use mathlib.Core.Logic.{◌↔◌}
use mathlib.Core.Bool.{Bool, true, false}
use mathlib.Core.List.{List, [], ◌∷◌, ◌++◌, map, append-nil}
use Prim.Native.Nat.{ℕ, suc, ◌+◌, ◌≤◌}
use native.Mathlib.Nat.{add-zero, zero-add, suc-add}
use native.Mathlib.Omega.{arith}
use lib.Dec.{T, ltb}
use lib.ListN.{length, take, drop, length-append}
use lib.Seq.{take_at, drop_at}
use Rattle.model.specs.Lists.{range}
use Rattle.model.specs.declared.Literal.{Literal}
use Rattle.model.specs.Totalizer.{node_clauses, Shape, leaf, node, leaves, outputs, root_output, node_over, nodes}
use Rattle.model.specs.Close.{truth}
use Rattle.model.specs.Fill.{count, unary, tree_values}
use Rattle.model.proofs.Lists.{values-get, values-make, values-append, values_length, append-iff, each_append}
use Rattle.encoding_laws.specs.Division.{tree_clauses}
use Rattle.encoding_laws.proofs.Truth.{all_true, all_true-append}
use Rattle.encoding_laws.proofs.Node.{Unary, node→, node←}

-- ---- the clauses of a tree, from those of its halves

pub tree_node : (l r : Shape) (v o : ℕ)
    → tree_clauses (node l r) v o
    ≡ tree_clauses l v o ++ tree_clauses r (v + leaves l) (o + outputs l) ++ node_clauses (node_over l r v o)
unfolding tree_clauses nodes
tree_node l r v o =
    let k : ℕ = o + outputs l in
    let ls = nodes l v o in
    let rs = nodes r (v + leaves l) k in
    let t = node_over l r v o in
    each_append node_clauses (ls ++ rs) (t ∷ [])
    ∙ ap₂ (λ (x y : List (List Literal)). x ++ y) (each_append node_clauses ls rs) (append-nil (node_clauses t))

-- ---- what the outputs must be

pub tree_values-length : (s : Shape) (xs : List Bool) → length (tree_values s xs) ≡ outputs s
tree_values-length leaf xs = refl
tree_values-length (node l r) xs =
    let u = tree_values-length l (take (leaves l) xs) in
    let w = tree_values-length r (drop (leaves l) xs) in
    let z = values_length (λ i. ltb i (count xs)) 0 (leaves l + leaves r) in
    simp length-append (omega arith)

pub count-append : (xs ys : List Bool) → count (xs ++ ys) ≡ count xs + count ys
count-append [] ys = sym (zero-add (count ys))
count-append (true ∷ xs) ys = ap suc (count-append xs ys) ∙ sym (suc-add (count xs) (count ys))
count-append (false ∷ xs) ys = count-append xs ys

pub count-le : (xs : List Bool) → count xs ≤ length xs
count-le [] = omega arith
count-le (true ∷ xs) = let h = count-le xs in omega arith
count-le (false ∷ xs) = let h = count-le xs in omega arith

module _ (a : List Bool) where
  -- the values of m variables from v on
  abbrev pub values_from : ℕ → ℕ → List Bool
  values_from v m = map (truth a) (range v m)

  -- the outputs from o on are those of the leaves from v on
  abbrev pub Filled : Shape → ℕ → ℕ → Type 0
  Filled s v o = values_from o (outputs s) ≡ tree_values s (values_from v (leaves s))

  unfoldable pub trues : ℕ → ℕ → ℕ
  trues v m = count (values_from v m)

  pub trues-le : (v m : ℕ) → trues v m ≤ m
  unfolding trues
  trues-le v m = rw (values_length (truth a) v m) at (count-le (values_from v m))

  pub trues-add : (v k m : ℕ) → trues v (k + m) ≡ trues v k + trues (v + k) m
  unfolding trues
  trues-add v k m = rw (values-append (truth a) v k m) (count-append (values_from v k) (values_from (v + k) m))

  pub unary-iff : (o m x : ℕ) → (values_from o m ≡ unary m x) ↔ Unary a o m x
  unary-iff o m x = (
    λ e i h. rw (zero-add i) at (values-get (truth a) (λ i. ltb i x) o 0 m e i h),
    λ u. values-make (truth a) (λ i. ltb i x) o 0 m (λ k h. rw (zero-add k) (u k h)),
  )

  abbrev pub Parts : Shape → Shape → ℕ → ℕ → Type 0
  Parts l r v o =
      Filled l v o
      × (Filled r (v + leaves l) (o + outputs l)
      × Unary a (o + outputs l + outputs r) (leaves l + leaves r) (trues v (leaves l) + trues (v + leaves l) (leaves r)))

  module _ (l r : Shape) (v o : ℕ) where
    ours : values_from o (outputs (node l r))
        ≡ values_from o (outputs l) ++ (values_from (o + outputs l) (outputs r) ++ values_from (o + outputs l + outputs r) (leaves l + leaves r))
    ours =
        let e : outputs (node l r) ≡ outputs l + (outputs r + (leaves l + leaves r)) = omega arith in
        rw (
          e,
          values-append (truth a) o (outputs l) (outputs r + (leaves l + leaves r)),
          values-append (truth a) (o + outputs l) (outputs r) (leaves l + leaves r),
        )

    theirs : tree_values (node l r) (values_from v (leaves l + leaves r))
        ≡ tree_values l (values_from v (leaves l))
        ++ (tree_values r (values_from (v + leaves l) (leaves r)) ++ unary (leaves l + leaves r) (trues v (leaves l) + trues (v + leaves l) (leaves r)))
    unfolding trues
    theirs =
        let k = values_length (truth a) v (leaves l) in
        rw (
          values-append (truth a) v (leaves l) (leaves r),
          take_at (values_from v (leaves l)) (values_from (v + leaves l) (leaves r)) (leaves l) k,
          drop_at (values_from v (leaves l)) (values_from (v + leaves l) (leaves r)) (leaves l) k,
          count-append (values_from v (leaves l)) (values_from (v + leaves l) (leaves r)),
        )

    pub parts : Filled (node l r) v o ↔ Parts l r v o
    parts =
        let n : ℕ = o + outputs l + outputs r in
        let x : ℕ = trues v (leaves l) + trues (v + leaves l) (leaves r) in
        let m : ℕ = leaves l + leaves r in
        let fl = tree_values l (values_from v (leaves l)) in
        let fr = tree_values r (values_from (v + leaves l) (leaves r)) in
        let p =
        append-iff (values_from o (outputs l)) (values_from (o + outputs l) (outputs r) ++ values_from n m) fl (fr ++ unary m x)
        (values_length (truth a) o (outputs l) ∙ sym (tree_values-length l (values_from v (leaves l)))) in
        let q =
        append-iff (values_from (o + outputs l) (outputs r)) (values_from n m) fr (unary m x)
        (values_length (truth a) (o + outputs l) (outputs r) ∙ sym (tree_values-length r (values_from (v + leaves l) (leaves r)))) in
        let u = unary-iff n m x in (
          λ e. let e' = p.0 (sym ours ∙ e ∙ theirs) in
              let e'' = q.0 e'.1 in
              (e'.0, (e''.0, u.0 e''.1)),
          λ h. ours ∙ p.1 (h.0, q.1 (h.1.0, u.1 h.1.1)) ∙ sym theirs,
        )

  count-one : (b : Bool) → b ≡ ltb 0 (count (b ∷ []))
  count-one true = refl
  count-one false = refl

  -- the root's outputs are the unary count of the leaves
  pub filled-root : (s : Shape) (v o : ℕ) → Filled s v o → Unary a (root_output s v o) (leaves s) (trues v (leaves s))
  unfolding trues
  filled-root leaf v o f = λ i h. let z : i ≡ 0 = omega arith in rw (z, add-zero v) (count-one (truth a v))
  filled-root (node l r) v o f =
      subst (λ x. Unary a (o + outputs l + outputs r) (leaves l + leaves r) x) (sym (trues-add v (leaves l) (leaves r))) ((parts l r v o).0 f).1.1

  tree→ : (s : Shape) (v o : ℕ) → T (all_true a (tree_clauses s v o)) → Filled s v o
  unfolding tree_clauses nodes
  tree→ leaf v o t = refl
  tree→ (node l r) v o t =
      let w : ℕ = v + leaves l in
      let k : ℕ = o + outputs l in
      let s = (all_true-append a (tree_clauses l v o ++ tree_clauses r w k) (node_clauses (node_over l r v o))).0 (subst (λ cs. T (all_true a cs)) (tree_node l r v o) t) in
      let z = (all_true-append a (tree_clauses l v o) (tree_clauses r w k)).0 s.0 in
      let fl = tree→ l v o z.0 in
      let fr = tree→ r w k z.1 in
      (parts l r v o).1 (
        fl,
        (
          fr,
          node→ a (node_over l r v o) (trues v (leaves l)) (trues w (leaves r))
              (trues-le v (leaves l)) (trues-le w (leaves r)) (filled-root l v o fl) (filled-root r w k fr) s.1,
        ),
      )

  tree← : (s : Shape) (v o : ℕ) → Filled s v o → T (all_true a (tree_clauses s v o))
  unfolding tree_clauses nodes
  tree← leaf v o f = tt
  tree← (node l r) v o f =
      let w : ℕ = v + leaves l in
      let k : ℕ = o + outputs l in
      let s = (parts l r v o).0 f in
      subst (λ cs. T (all_true a cs)) (sym (tree_node l r v o)) ((all_true-append a (tree_clauses l v o ++ tree_clauses r w k) (node_clauses (node_over l r v o))).1 (
        (all_true-append a (tree_clauses l v o) (tree_clauses r w k)).1 (tree← l v o s.0, tree← r w k s.1.0),
        node← a (node_over l r v o) (trues v (leaves l)) (trues w (leaves r))
            (trues-le v (leaves l)) (trues-le w (leaves r)) (filled-root l v o s.0) (filled-root r w k s.1.0) s.1.1,
      ))

  -- for every tree, wherever its leaves and outputs are numbered from
  pub tree-iff : (s : Shape) (v o : ℕ) → T (all_true a (tree_clauses s v o)) ↔ Filled s v o
  tree-iff s v o = (tree→ s v o, tree← s v o)
