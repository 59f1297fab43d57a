-- A node's clauses hold exactly when its outputs are the unary count of its halves' together. Assumes nothing.
use mathlib.Core.Path.{◌≡◌, sym, ap, ap₂, ◌∙◌, subst}
use mathlib.Core.Logic.{◌↔◌}
use mathlib.Core.Bool.{Bool, true, false, not, ◌&&◌, ◌||◌}
use mathlib.Core.List.{List}
use Prim.Native.Nat.{ℕ, zero, suc, ◌+◌, ◌-◌, ◌≤◌, ◌<◌, min}
use native.Mathlib.Omega.{arith}
use native.Mathlib.Decide.{dec_lt}
use lib.Dec.{T, leb, ltb, leb→le, le→leb, ltb→lt, lt→ltb, nleb→lt, leb-zero, T_not}
use lib.Arith.{lt→nleb, le→nltb}
use Rattle.model.specs.declared.Literal.TheVariants.{Pos}
use Rattle.model.specs.declared.Printed.{Printed}
use Rattle.model.specs.declared.Node.{Node}
use Rattle.model.specs.declared.Term.TheVariants.{Fails, Open}
use Rattle.std.specs.List.{list_all, list_any}
use Rattle.model.specs.Lists.{range}
use Rattle.model.specs.Totalizer.{up, down, formed, output, keep, node_terms, put_in, dropped, row_clauses, node_clauses}
use Rattle.model.specs.Close.{truth, term_true, clause_true}
use Rattle.model.proofs.Lists.{T-ext, T_true, T_false, every-each, every-ext, every-range, range-every}
use Rattle.encoding_laws.proofs.Truth.{all_true, T_and, opposite-true, keep-true}

-- m variables from f on are the unary count of x
abbrev pub Unary : List Bool → ℕ → ℕ → ℕ → Type 0
Unary a f m x = (i : ℕ) → i < m → truth a (f + i) ≡ ltb i x

pub output_in : (f m i : ℕ) → i < m → output f m (suc i) ≡ Open (Pos (f + i))
output_in f m i h = rw (T_true (ltb i m) (lt→ltb i m h))

pub output-out : (f m i : ℕ) → m ≤ i → output f m (suc i) ≡ Fails
output-out f m i h = rw (T_false (ltb i m) (le→nltb i m h))

pub output-true : (a : List Bool) (f m x : ℕ) → x ≤ m → Unary a f m x → (p : ℕ) → term_true a (output f m p) ≡ leb p x
output-true a f m x h u zero = sym (leb-zero x)
output-true a f m x h u (suc i) = go (dec_lt i m)
  where
    go : Dec (i < m) → term_true a (output f m (suc i)) ≡ leb (suc i) x
    go (yes l) = rw (output_in f m i l) (u i l)
    go (no l) = rw (output-out f m i (omega arith)) (sym (T_false (leb (suc i) x) (lt→nleb (suc i) x (omega arith))))

up_iff : (a b c : Bool) → T (not a || (not b || (c || false))) ↔ (T a → T b → T c)
up_iff true true true = (λ t p q. tt, λ h. tt)
up_iff true true false = (λ t p q. t, λ h. h tt tt)
up_iff true false c = (λ t p q. absurd q, λ h. tt)
up_iff false b c = (λ t p. absurd p, λ h. tt)

down_iff : (a b c : Bool) → T (a || (b || (not c || false))) ↔ (T (not a) → T (not b) → T (not c))
down_iff true b c = (λ t p. absurd p, λ h. tt)
down_iff false true c = (λ t p q. absurd q, λ h. tt)
down_iff false false true = (λ t p q. t, λ h. h tt tt)
down_iff false false false = (λ t p q. tt, λ h. tt)

-- child C has x true outputs, child D has y
module _ (a : List Bool) (t : Node) (x y : ℕ) (hx : x ≤ t.a) (hy : y ≤ t.b) (uc : Unary a t.c t.a x) (ud : Unary a t.d t.b y) where
  holds_in : Printed → Bool
  holds_in f = list_any (term_true a) (node_terms t f)

  own : ℕ → Bool
  own r = term_true a (output t.n (t.a + t.b) r)

  up-eq : (p q : ℕ) → holds_in (up p q) ≡ (not (leb p x) || (not (leb q y) || (own (p + q) || false)))
  unfolding own holds_in node_terms up
  up-eq p q =
      rw (
        opposite-true a (output t.c t.a p),
        opposite-true a (output t.d t.b q),
        output-true a t.c t.a x hx uc p,
        output-true a t.d t.b y hy ud q,
      )

  down-eq : (p q : ℕ) → holds_in (down p q) ≡ (leb (suc p) x || (leb (suc q) y || (not (own (suc (p + q))) || false)))
  unfolding own holds_in node_terms down
  down-eq p q =
      rw (
        opposite-true a (output t.n (t.a + t.b) (suc (p + q))),
        output-true a t.c t.a x hx uc (suc p),
        output-true a t.d t.b y hy ud (suc q),
      )

  -- the clauses at p and q
  pair_true : ℕ → ℕ → Bool
  pair_true p q = holds_in (up p q) && (holds_in (down p q) && true)

  dropped_true : (p q : ℕ) → all_true a (dropped t p q) ≡ pair_true p q
  unfolding dropped put_in formed holds_in pair_true
  dropped_true p q =
      every-each (clause_true a) keep (put_in t p q)
      ∙ ap₂ (λ (x y : Bool). x && (y && true)) (keep-true a (node_terms t (up p q))) (keep-true a (node_terms t (down p q)))

  node_true : all_true a (node_clauses t) ≡ list_all (λ p. list_all (pair_true p) (range 0 (suc t.b))) (range 0 (suc t.a))
  unfolding node_clauses row_clauses
  node_true =
      every-each (clause_true a) (row_clauses t) (range 0 (suc t.a))
      ∙ every-ext (λ p. all_true a (row_clauses t p)) (λ p. list_all (pair_true p) (range 0 (suc t.b)))
      (λ p. every-each (clause_true a) (dropped t p) (range 0 (suc t.b))
      ∙ every-ext (λ q. all_true a (dropped t p q)) (pair_true p) (dropped_true p) (range 0 (suc t.b)))
      (range 0 (suc t.a))

  cell : T (all_true a (node_clauses t)) → (p q : ℕ) → p ≤ t.a → q ≤ t.b → T (holds_in (up p q)) × T (holds_in (down p q))
  unfolding pair_true
  cell h p q hp hq =
      let row : T (list_all (pair_true p) (range 0 (suc t.b))) =
      every-range (λ p. list_all (pair_true p) (range 0 (suc t.b))) 0 (suc t.a) (subst T node_true h) p (omega arith) (omega arith) in
      let s = (T_and (holds_in (up p q)) (holds_in (down p q) && true)).0 (every-range (pair_true p) 0 (suc t.b) row q (omega arith) (omega arith)) in
      (s.0, ((T_and (holds_in (down p q)) true).0 s.1).0)

  cells : ((p q : ℕ) → p ≤ t.a → q ≤ t.b → T (holds_in (up p q)) × T (holds_in (down p q))) → T (all_true a (node_clauses t))
  unfolding pair_true
  cells h =
      subst T (sym node_true)
      (range-every (λ p. list_all (pair_true p) (range 0 (suc t.b))) 0 (suc t.a)
      (λ p l k. range-every (pair_true p) 0 (suc t.b)
      (λ q l' k'. let s = h p q (omega arith) (omega arith) in
      (T_and (holds_in (up p q)) (holds_in (down p q) && true)).1 (s.0, (T_and (holds_in (down p q)) true).1 (s.1, tt)))))

  pub node→ : T (all_true a (node_clauses t)) → Unary a t.n (t.a + t.b) (x + y)
  unfolding own
  node→ h i k = T-ext (truth a (t.n + i)) (ltb i (x + y)) high low
    where
      value : own (suc i) ≡ truth a (t.n + i)
      value = rw (output_in t.n (t.a + t.b) i k)

      low : T (ltb i (x + y)) → T (truth a (t.n + i))
      low l =
          let l' : i < x + y = ltb→lt i (x + y) l in
          let p : ℕ = min x (suc i) in
          let q : ℕ = suc i - p in
          let e : p + q ≡ suc i = omega arith in
          let u : T (own (p + q)) =
          (up_iff (leb p x) (leb q y) (own (p + q))).0 (rw (up-eq p q) at (cell h p q (omega arith) (omega arith)).0)
          (le→leb p x (omega arith)) (le→leb q y (omega arith)) in
          subst T (ap own e ∙ value) u

      high : T (truth a (t.n + i)) → T (ltb i (x + y))
      high v = go (dec_lt i (x + y))
        where
          go : Dec (i < x + y) → T (ltb i (x + y))
          go (yes l) = lt→ltb i (x + y) l
          go (no l) =
              let p : ℕ = min t.a (i - y) in
              let q : ℕ = i - p in
              let e : p + q ≡ i = omega arith in
              let u : T (not (own (suc (p + q)))) =
              (down_iff (leb (suc p) x) (leb (suc q) y) (own (suc (p + q)))).0 (rw (down-eq p q) at (cell h p q (omega arith) (omega arith)).1)
              (lt→nleb (suc p) x (omega arith)) (lt→nleb (suc q) y (omega arith)) in
              absurd (T_not (truth a (t.n + i)) (subst (λ b. T (not b)) (ap (λ r. own (suc r)) e ∙ value) u) v)

  pub node← : Unary a t.n (t.a + t.b) (x + y) → T (all_true a (node_clauses t))
  unfolding own
  node← u = cells (λ p q hp hq. (
    rw (up-eq p q, value (p + q))
        ((up_iff (leb p x) (leb q y) (leb (p + q) (x + y))).1
        (λ l r. let l' = leb→le p x l in let r' = leb→le q y r in le→leb (p + q) (x + y) (omega arith))),
    rw (down-eq p q, value (suc (p + q)))
        ((down_iff (leb (suc p) x) (leb (suc q) y) (leb (suc (p + q)) (x + y))).1
        (λ l r. let l' = nleb→lt (suc p) x l in let r' = nleb→lt (suc q) y r in lt→nleb (suc (p + q)) (x + y) (omega arith))),
  ))
    where
      value : (r : ℕ) → own r ≡ leb r (x + y)
      value r = output-true a t.n (t.a + t.b) (x + y) (omega arith) u r
