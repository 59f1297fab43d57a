-- The two walks over the members of a union, and its short clauses after them. Assumes nothing.
use mathlib.Core.Path.{◌≡◌, refl, sym, ap, ap₂, ◌∙◌}
use Prim.Native.Nat.{ℕ, suc, ◌+◌, ◌-◌, ◌≤◌, ◌<◌}
use native.Mathlib.Nat.{sub-zero}
use native.Mathlib.Numerals.{add-one}
use native.Mathlib.Omega.{arith}
use mathlib.Core.List.{List, [], ◌∷◌, ◌++◌, map, map-map, map-append, append-nil, append_assoc}
use lib.Bits.{bit_and, bit_or}
use lib.ListN.{length, get_or, take}
use lib.Seq.{take-suc}
use Rattle.model.specs.declared.Literal.{Literal}
use Rattle.model.specs.declared.Literal.TheVariants.{Pos, Neg}
use Rattle.model.specs.declared.Group.{Group}
use Rattle.model.specs.Lists.{range}
use Rattle.model.specs.Words.{less}
use Rattle.model.specs.Clauses.{of_group, union_clauses}
use Rattle.model.specs.Model.{group_at}
use Rattle.model.specs.Propagate.{false_in, all_false, made_true, literal_rule, run, clause_rules, clause_rule}
use Rattle.model.proofs.Lists.{range-append, range_last}
use Rattle.model.proofs.Words.{bit-zero, bit-and, bit-or, bit-less, bit_ext}
use Rattle.clause_rule.specs.Union.{words_of, outside, in_one_at_most, long_clause}
use Rattle.clause_rule.proofs.Outside.{none-none, outside-none, one_none, outside-append, one-append, others-are}
use Rattle.clause_rule.proofs.Places.{possible-kept, made_none}

-- one more of a range
range-more : (a k i : ℕ) → i < k → range (a + i) (k - i) ≡ (a + i) ∷ range (a + (i + 1)) (k - (i + 1))
range-more a k i h = ap (range (a + i)) left ∙ ap {B = List ℕ} (λ (x : ℕ). (a + i) ∷ range x (k - (i + 1))) next
  where
    left : k - i ≡ suc (k - (i + 1))
    left = omega arith

    next : suc (a + i) ≡ a + (i + 1)
    next = omega arith

range-done : (a k i : ℕ) → k ≤ i → range a (k - i) ≡ []
range-done a k i h = let z : k - i ≡ 0 = omega arith in ap (range a) z

range_back : (i : ℕ) → range 1 (i + 1) ≡ range 1 i ++ ((i + 1) ∷ [])
range_back i = let e : 1 + i ≡ i + 1 = omega arith in ap (range 1) (add-one i) ∙ range_last 1 i ∙ ap (λ (m : ℕ). range 1 i ++ (m ∷ [])) e

-- ---- who is in none, and who in one at most

abbrev pub word : List Group → List ℕ → ℕ → ℕ
word t ids m = (group_at t (get_or ids m 0)).possible

module _ (t : List Group) (ids : List ℕ) (w : ℕ) where
  -- of the first i members
  abbrev pub Few : ℕ → ℕ → ℕ → Type 0
  Few none one i = (none ≡ outside w (words_of t ids (range 1 i))) × (one ≡ in_one_at_most w w (words_of t ids (range 1 i)))

  module _ (none one i : ℕ) (inv : Few none one i) where
    pub few-next : (v a b : ℕ) → v ≡ word t ids (i + 1) → a ≡ less one v → b ≡ less none v → Few b (bit_or none a) (i + 1)
    few-next v a b e f g = (
      g
          ∙ ap₂ less inv.0 e
          ∙ sym (outside-append w (words_of t ids (range 1 i)) (word t ids (i + 1) ∷ []))
          ∙ ap (outside w) (sym more),
      ap₂ bit_or inv.0 (f ∙ ap₂ less inv.1 e)
          ∙ sym (one-append w w (words_of t ids (range 1 i)) (word t ids (i + 1) ∷ []))
          ∙ ap (in_one_at_most w w) (sym more),
    )
      where
        more : words_of t ids (range 1 (i + 1)) ≡ words_of t ids (range 1 i) ++ (word t ids (i + 1) ∷ [])
        more = ap (map (word t ids)) (range_back i) ∙ map-append (word t ids) (range 1 i) ((i + 1) ∷ [])

    -- where nobody is left, nobody is at the end
    pub few-none : (k : ℕ) → i ≤ k → bit_or none one ≡ 0 → Few 0 0 k
    few-none k h e =
        let z = none-none none one e in
        let ps = words_of t ids (range 1 i) in
        let qs = words_of t ids (range (1 + i) (k - i)) in
        let s : i + (k - i) ≡ k = omega arith in
        let all : words_of t ids (range 1 k) ≡ ps ++ qs = ap (λ (n : ℕ). map (word t ids) (range 1 n)) (sym s) ∙ ap (map (word t ids)) (range-append 1 i (k - i)) ∙ map-append (word t ids) (range 1 i) (range (1 + i) (k - i)) in (
          sym (ap (outside w) all ∙ outside-append w ps qs ∙ ap (λ (x : ℕ). outside x qs) (sym inv.0 ∙ z.0) ∙ outside-none qs),
          sym (ap (in_one_at_most w w) all ∙ one-append w w ps qs ∙ ap₂ (λ (x y : ℕ). in_one_at_most x y qs) (sym inv.0 ∙ z.0) (sym inv.1 ∙ z.1) ∙ one_none qs),
        )

-- ---- the long clause

false-append : (t : List Group) (w : ℕ) (xs ys : List Literal) → all_false t w (xs ++ ys) ≡ all_false t (all_false t w xs) ys
unfolding all_false
false-append t w [] ys = refl
false-append t w (x ∷ xs) ys = false-append t (false_in t w x) xs ys

-- one more of the others of a literal
pub false-more : (t : List Group) (ids : List ℕ) (w : ℕ) (ls : List Literal) (i : ℕ) (d : Literal) (v r : ℕ) → i < length ls → v ≡ all_false t w (map (of_group ids) (take i ls))
    → r ≡ false_in t v (of_group ids (get_or ls i d)) → r ≡ all_false t w (map (of_group ids) (take (i + 1) ls))
unfolding all_false
false-more t ids w ls i d v r h e f =
    f
    ∙ ap (λ (x : ℕ). false_in t x (of_group ids (get_or ls i d))) e
    ∙ sym (false-append t w (map (of_group ids) (take i ls)) (of_group ids (get_or ls i d) ∷ []))
    ∙ ap (all_false t w) (sym (ap (map (of_group ids)) (ap (λ (n : ℕ). take n ls) (add-one i) ∙ take-suc ls i d h) ∙ map-append (of_group ids) (take i ls) (get_or ls i d ∷ [])))

nobody : (x y : ℕ) → bit_and (bit_or 0 (bit_and 0 x)) y ≡ 0
nobody x y = bit_ext (bit_and (bit_or 0 (bit_and 0 x)) y) 0 (λ e. omega (arith, bit-and e (bit_or 0 (bit_and 0 x)) y, bit-or e 0 (bit_and 0 x), bit-and e 0 x, bit-zero e))

-- the words of the possible ones of another table are these
words-same : (t u : List Group) (ids : List ℕ) → ((g : ℕ) → (group_at u g).possible ≡ (group_at t g).possible) → (ms : List ℕ) → words_of u ids ms ≡ words_of t ids ms
words-same t u ids e [] = refl
words-same t u ids e (m ∷ ms) = ap₂ {C = List ℕ} (λ (p : ℕ) (ps : List ℕ). p ∷ ps) (e (get_or ids m 0)) (words-same t u ids e ms)

module _ (w : ℕ) (ids : List ℕ) where
  abbrev member_of : ℕ → Literal
  member_of m = Pos (get_or ids m 0)

  abbrev last : List Literal
  last = Neg (get_or ids 0 0) ∷ []

  -- the literals of the members ms, after those of bs, and then -H
  abbrev rest_of : List ℕ → List ℕ → List Group → List Group
  rest_of bs ms = run (clause_rules w (map (λ m. Pos (get_or ids m 0)) bs) (map (λ m. Pos (get_or ids m 0)) ms ++ (Neg (get_or ids 0 0) ∷ [])))

  -- from t on, the literals after the first i members are left at u, and no possible one was taken out
  pub record LongLeft (k : ℕ) (t : List Group) (i : ℕ) (u : List Group) : Type 0 where
    pub possible : (g : ℕ) → (group_at u g).possible ≡ (group_at t g).possible
    pub left : clause_rule w (map (of_group ids) (long_clause k)) t ≡ rest_of (range 1 i) (range (1 + i) (k - i)) u

  rest-next : (bs : List ℕ) (m : ℕ) (ms : List ℕ) (t : List Group)
      → rest_of bs (m ∷ ms) t ≡ rest_of (bs ++ (m ∷ [])) ms (literal_rule w (member_of m) (map member_of bs ++ (map member_of ms ++ last)) t)
  unfolding clause_rules
  rest-next bs m ms t =
      ap (λ before. run (clause_rules w before (map member_of ms ++ last)) (literal_rule w (member_of m) (map member_of bs ++ (map member_of ms ++ last)) t)) (sym (map-append member_of bs (m ∷ [])))

  module _ (t : List Group) where
    outside-false : (ms : List ℕ) (u : ℕ) → all_false t u (map member_of ms) ≡ outside u (words_of t ids ms)
    unfolding all_false false_in
    outside-false [] u = refl
    outside-false (m ∷ ms) u = outside-false ms (less u (group_at t (get_or ids m 0)).possible)

    -- for whom all literals but that of member m are settled false
    others-false : (bs : List ℕ) (m : ℕ) (ms : List ℕ)
        → all_false t w (map member_of bs ++ (map member_of ms ++ last))
        ≡ bit_and (bit_or (outside w (words_of t ids (bs ++ (m ∷ ms)))) (bit_and (in_one_at_most w w (words_of t ids (bs ++ (m ∷ ms)))) (word t ids m))) (group_at t (get_or ids 0 0)).fixed
    unfolding all_false false_in
    others-false bs m ms =
        false-append t w (map member_of bs) (map member_of ms ++ last)
        ∙ false-append t (all_false t w (map member_of bs)) (map member_of ms) last
        ∙ ap (λ (x : ℕ). bit_and x (group_at t (get_or ids 0 0)).fixed) pairs
      where
        pairs : all_false t (all_false t w (map member_of bs)) (map member_of ms)
            ≡ bit_or (outside w (words_of t ids (bs ++ (m ∷ ms)))) (bit_and (in_one_at_most w w (words_of t ids (bs ++ (m ∷ ms)))) (word t ids m))
        pairs =
            outside-false ms (all_false t w (map member_of bs))
            ∙ ap (λ (x : ℕ). outside x (words_of t ids ms)) (outside-false bs w)
            ∙ sym (outside-append w (words_of t ids bs) (words_of t ids ms))
            ∙ others-are w (words_of t ids bs) (word t ids m) (words_of t ids ms)
            ∙ ap (λ qs. bit_or (outside w qs) (bit_and (in_one_at_most w w qs) (word t ids m))) (sym (map-append (word t ids) bs (m ∷ ms)))

    last-false : (bs : List ℕ) → all_false t w (map member_of bs ++ []) ≡ outside w (words_of t ids bs)
    last-false bs = ap (all_false t w) (append-nil (map member_of bs)) ∙ outside-false bs w

    -- where nobody is left, nothing changes
    idle : (bs ms : List ℕ) → outside w (words_of t ids (bs ++ ms)) ≡ 0 → in_one_at_most w w (words_of t ids (bs ++ ms)) ≡ 0 → rest_of bs ms t ≡ t
    unfolding clause_rules literal_rule
    idle bs [] a b =
        ap (λ (x : ℕ). made_true (Neg (get_or ids 0 0)) x t) (last-false bs ∙ ap (λ ms. outside w (words_of t ids ms)) (sym (append-nil bs)) ∙ a)
        ∙ made_none (Neg (get_or ids 0 0)) t
    idle bs (m ∷ ms) a b =
        rest-next bs m ms t
        ∙ ap (rest_of (bs ++ (m ∷ [])) ms) still
        ∙ idle (bs ++ (m ∷ [])) ms (ap (λ qs. outside w (words_of t ids qs)) (append_assoc bs (m ∷ []) ms) ∙ a) (ap (λ qs. in_one_at_most w w (words_of t ids qs)) (append_assoc bs (m ∷ []) ms) ∙ b)
      where
        still : literal_rule w (member_of m) (map member_of bs ++ (map member_of ms ++ last)) t ≡ t
        still =
            ap (λ (x : ℕ). made_true (member_of m) x t)
            (others-false bs m ms
            ∙ ap₂ (λ (x y : ℕ). bit_and (bit_or x (bit_and y (word t ids m))) (group_at t (get_or ids 0 0)).fixed) a b
            ∙ nobody (word t ids m) (group_at t (get_or ids 0 0)).fixed)
            ∙ made_none (member_of m) t

  -- ---- in the loop

  module _ (k : ℕ) (t : List Group) where
    long-is : map (of_group ids) (long_clause k) ≡ map (λ m. Pos (get_or ids m 0)) (range 1 k) ++ (Neg (get_or ids 0 0) ∷ [])
    unfolding of_group
    long-is = map-append (of_group ids) (map Pos (range 1 k)) (Neg 0 ∷ []) ∙ ap (λ ls. ls ++ last) (map-map (of_group ids) Pos (range 1 k))

    pub long-start : LongLeft k t 0 t
    unfolding clause_rule
    long-start = record { possible = λ g. refl; left = ap (λ ls. run (clause_rules w [] ls) t) long-is ∙ rw (sub-zero k) }

    pub long-idle : (none one : ℕ) → Few t ids w none one k → bit_or none one ≡ 0 → t ≡ clause_rule w (map (of_group ids) (long_clause k)) t
    long-idle none one a e =
        let q = none-none none one e in
        sym (long-start.left ∙ rw (sub-zero k) (idle t [] (range 1 k) (sym a.0 ∙ q.0) (sym a.1 ∙ q.1)))

    module _ (i : ℕ) (u : List Group) (inv : LongLeft k t i u) where
      pub long-next : i < k → (none one : ℕ) → Few t ids w none one k → (v h : ℕ) → v ≡ word u ids (i + 1) → h ≡ (group_at u (get_or ids 0 0)).fixed
          → (u₁ : List Group) → u₁ ≡ made_true (Pos (get_or ids (i + 1) 0)) (bit_and (bit_or none (bit_and one v)) h) u → LongLeft k t (i + 1) u₁
      unfolding literal_rule
      long-next lt none one a v h e g u₁ m = record {
        possible = λ n. ap (λ (x : List Group). (group_at x n).possible) m ∙ possible-kept _ (get_or ids (i + 1) 0) n u ∙ inv.possible n;
        left =
            inv.left
            ∙ ap (λ ms. rest_of (range 1 i) ms u) (range-more 1 k i lt)
            ∙ rest-next (range 1 i) (1 + i) after u
            ∙ ap₂ (λ bs x. rest_of bs after x) back made;
      }
        where
          after : List ℕ
          after = range (1 + (i + 1)) (k - (i + 1))

          next : 1 + i ≡ i + 1
          next = omega arith

          back : range 1 i ++ ((1 + i) ∷ []) ≡ range 1 (i + 1)
          back = ap (λ (n : ℕ). range 1 i ++ (n ∷ [])) next ∙ sym (range_back i)

          whole : range 1 i ++ ((1 + i) ∷ after) ≡ range 1 k
          whole =
              ap (λ ms. range 1 i ++ ms) (sym (range-more 1 k i lt))
              ∙ sym (range-append 1 i (k - i))
              ∙ ap (range 1) (let s : i + (k - i) ≡ k = omega arith in s)

          words : words_of u ids (range 1 i ++ ((1 + i) ∷ after)) ≡ words_of t ids (range 1 k)
          words = ap (words_of u ids) whole ∙ words-same t u ids inv.possible (range 1 k)

          made : literal_rule w (member_of (1 + i)) (map member_of (range 1 i) ++ (map member_of after ++ last)) u ≡ u₁
          made =
              ap₂ (λ (y x : ℕ). made_true (member_of y) x u) next
              (others-false u (range 1 i) (1 + i) after
              ∙ ap (λ qs. bit_and (bit_or (outside w qs) (bit_and (in_one_at_most w w qs) (word u ids (1 + i)))) (group_at u (get_or ids 0 0)).fixed) words
              ∙ rw (← a.0, ← a.1, e, g, next))
              ∙ sym m

      pub long-end : k ≤ i → i ≤ k → (none one : ℕ) → Few t ids w none one k → (u₁ : List Group) → u₁ ≡ made_true (Neg (get_or ids 0 0)) none u
          → u₁ ≡ clause_rule w (map (of_group ids) (long_clause k)) t
      unfolding clause_rules literal_rule
      long-end x y none one a u₁ m =
          let same : i ≡ k = omega arith in
          m
          ∙ sym
          (inv.left
          ∙ ap (λ ms. rest_of (range 1 i) ms u) (range-done (1 + i) k i x)
          ∙ ap (λ (z : ℕ). made_true (Neg (get_or ids 0 0)) z u)
          (last-false u (range 1 i) ∙ ap (λ (n : ℕ). outside w (words_of u ids (range 1 n))) same ∙ ap (outside w) (words-same t u ids inv.possible (range 1 k)) ∙ sym a.0))

-- ---- the short clauses of a union

module _ (w : ℕ) (ids : List ℕ) (k : ℕ) (t : List Group) where
  -- the clauses of the members after the first i
  abbrev pub short_from : ℕ → List Group → List Group
  short_from i = run (map (clause_rule w) (map (map (of_group ids)) (map (λ j. Neg j ∷ Pos 0 ∷ []) (range (1 + i) (k - i)))))

  abbrev pub ShortLeft : ℕ → List Group → Type 0
  ShortLeft i u = run (map (clause_rule w) (map (map (of_group ids)) (map (λ j. Neg j ∷ Pos 0 ∷ []) (range 1 k)))) t ≡ short_from i u

  pub short-start : ShortLeft 0 t
  short-start = rw (sub-zero k)

  module _ (i : ℕ) (u : List Group) (inv : ShortLeft i u) where
    pub short-next : i < k → (u₁ : List Group) → u₁ ≡ clause_rule w (of_group ids (Neg (i + 1)) ∷ of_group ids (Pos 0) ∷ []) u → ShortLeft (i + 1) u₁
    short-next lt u₁ m =
        let next : 1 + i ≡ i + 1 = omega arith in
        inv
        ∙ ap (λ ms. run (map (clause_rule w) (map (map (of_group ids)) (map (λ j. Neg j ∷ Pos 0 ∷ []) ms))) u) (range-more 1 k i lt)
        ∙ ap (λ (j : ℕ). short_from (i + 1) (clause_rule w (of_group ids (Neg j) ∷ of_group ids (Pos 0) ∷ []) u)) next
        ∙ ap (short_from (i + 1)) (sym m)

    -- after the long clause
    pub union-end : k ≤ i → (t₀ : List Group) → t ≡ clause_rule w (map (of_group ids) (long_clause k)) t₀
        → u ≡ run (map (clause_rule w) (map (map (of_group ids)) (union_clauses k))) t₀
    unfolding union_clauses
    union-end ge t₀ a =
        sym
        (ap (run (map (clause_rule w) (map (map (of_group ids)) (map (λ j. Neg j ∷ Pos 0 ∷ []) (range 1 k))))) (sym a)
        ∙ inv
        ∙ ap (λ ms. run (map (clause_rule w) (map (map (of_group ids)) (map (λ j. Neg j ∷ Pos 0 ∷ []) ms))) u) (range-done (1 + i) k i ge))

-- ---- for nobody

none-false : (t : List Group) (ls : List Literal) → all_false t 0 ls ≡ 0
unfolding all_false
none-false t [] = refl
none-false t (l ∷ ls) = ap (λ (x : ℕ). all_false t x ls) (none l) ∙ none-false t ls
  where
    none : (l : Literal) → false_in t 0 l ≡ 0
    none (Pos g) = unfold false_in in bit_ext (less 0 (group_at t g).possible) 0 (λ e. omega (arith, bit-less e 0 (group_at t g).possible, bit-zero e))
    none (Neg g) = unfold false_in in bit_ext (bit_and 0 (group_at t g).fixed) 0 (λ e. omega (arith, bit-and e 0 (group_at t g).fixed, bit-zero e))

none-clause : (before ls : List Literal) (t : List Group) → run (clause_rules 0 before ls) t ≡ t
unfolding clause_rules literal_rule
none-clause before [] t = refl
none-clause before (l ∷ ls) t =
    ap (run (clause_rules 0 (before ++ (l ∷ [])) ls)) (ap (λ (x : ℕ). made_true l x t) (none-false t (before ++ ls)) ∙ made_none l t)
    ∙ none-clause (before ++ (l ∷ [])) ls t

pub none_clauses : (cs : List (List Literal)) (t : List Group) → run (map (clause_rule 0) cs) t ≡ t
unfolding clause_rule
none_clauses [] t = refl
none_clauses (c ∷ cs) t = ap (run (map (clause_rule 0) cs)) (none-clause [] c t) ∙ none_clauses cs t
