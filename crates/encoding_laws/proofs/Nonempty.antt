-- At a fixpoint no constraint clause loses its last literal, so that refusal 29 cannot follow 22. Assumes nothing.
use mathlib.Core.Path.{◌≡◌, refl, sym, ap, ◌∙◌}
use mathlib.Core.Logic.{◌⊎◌, inl, inr}
use mathlib.Core.Bool.{Bool, true, false, not, cond, ◌&&◌}
use mathlib.Core.List.{List, [], ◌∷◌, map}
use Prim.Native.Nat.{ℕ, ◌+◌, ◌-◌, ◌%◌, ◌^◌, ◌<◌}
use native.Mathlib.Omega.{arith}
use native.Mathlib.Decide.{dec_lt}
use borrow.Author.Tests.{ltb-true}
use lib.Dec.{T, ltb}
use lib.Bits.{bit_or}
use lib.ListN.{length, get_or}
use Rattle.model.specs.declared.Literal.{Literal}
use Rattle.model.specs.declared.Literal.TheVariants.{Pos, Neg}
use Rattle.model.specs.declared.Term.{Term}
use Rattle.model.specs.declared.Term.TheVariants.{Holds, Fails, Open}
use Rattle.model.specs.declared.Group.{Group}
use Rattle.model.specs.declared.Constraint.{Constraint}
use Rattle.model.specs.declared.Model.{Model}
use Rattle.std.specs.List.{list_any, flat_map}
use Rattle.model.specs.Lists.{range, is_empty}
use Rattle.model.specs.Words.{full, less, size, bit, has}
use Rattle.model.specs.Clauses.{by_entrant, member_count, member_clauses, short_clauses, is_difference, of_group, clauses_of}
use Rattle.model.specs.Model.{zero_group, zero_constraint, group_at, member_at, table_of, constraints_of, constraint_in_range}
use Rattle.model.specs.Difference.{may_differ, is_apart}
use Rattle.model.specs.Propagate.{false_in, all_false, fixed_with, possible_without, made_true, literal_rule, clause_rule, scope, Settled}
use Rattle.model.specs.Totalizer.{opposite_term, holds, literals, keep}
use Rattle.model.specs.Cnf.{is_open_difference, differing, first_difference, table_variables, membership, difference, term_of, variable_of, clauses_at, last_clause, constraint_clauses, line_clauses, node_blocks, block_clauses}
use Rattle.model.specs.Text.{has_empty_clause}
use Rattle.model.specs.Assignment.{variable}
use Rattle.model.proofs.Words.{bit_le, bit-zero, bit_past, bit_ext, bit-and, bit-or, bit-less, bit-full, has_one, has-none}
use Rattle.model.proofs.Lists.{All, all_both, all-range, all-map-iff, all-each, range_all, all-imp, all-zip, all_get_d, all-place, every-all, place-get_or}
use Rattle.model.proofs.Codes.{entrant-or-seven, members-clear}
use Rattle.propagation_laws.proofs.Meaning.{rule_clauses_lem}
use Rattle.propagation_laws.proofs.Ranges.{in_range_lem, constraint-code, member_below}
use Rattle.encoding_laws.proofs.Fixpoint.{SettledAmong, table-settled, differs-keep, clauses-keep, first-keeps}
use Rattle.encoding_laws.proofs.Differences.{six-scope, six-at, six-last, differing-lt, apart-at, apart-last, apart-bits, some-differing, open-last, four}
use Rattle.encoding_laws.proofs.Groups.{table-length}
use Rattle.encoding_laws.proofs.Blocks.{line-block}

abbrev HasLiteral : List Literal → Type 0
HasLiteral ls = T (not (is_empty ls))

-- a clause is kept without literals only where every literal fails
kept-filled : (ts : List Term) → (All (λ x. x ≡ Fails) ts → ⊥) → All HasLiteral (keep ts)
unfolding keep
kept-filled ts h = go (list_any holds ts) refl
  where
    fails : (ts : List Term) → list_any holds ts ≡ false → literals ts ≡ [] → All (λ x. x ≡ Fails) ts
    fails [] e f = tt
    fails (Holds ∷ ts) e f = absurd (let z : ◌≡◌ {A = ℕ} 0 1 = cc in omega arith)
    fails (Fails ∷ ts) e f = (refl, fails ts e f)
    fails (Open l ∷ ts) e f = absurd (let z : ◌≡◌ {A = ℕ} 0 1 = cc in omega arith)

    some-literal : (ls : List Literal) → (ls ≡ [] → ⊥) → HasLiteral ls
    some-literal [] k = absurd (k refl)
    some-literal (l ∷ ls) k = tt

    go : (b : Bool) → list_any holds ts ≡ b → All HasLiteral (cond b [] (literals ts ∷ []))
    go true e = tt
    go false e = (some-literal (literals ts) (λ f. h (fails ts e f)), tt)

-- ---- a term that fails is settled false

module _ (t : List Group) (e g : ℕ) where
  fixed_bit : ℕ
  fixed_bit = bit e (group_at t g).fixed

  possible_bit : ℕ
  possible_bit = bit e (group_at t g).possible

  member-fails : membership t e g ≡ Fails → (fixed_bit ≡ 0) × (possible_bit ≡ 0)
  unfolding membership fixed_bit possible_bit
  member-fails h = go (has (group_at t g).fixed e) refl (has (group_at t g).possible e) refl h
    where
      go : (x : Bool) → has (group_at t g).fixed e ≡ x → (y : Bool) → has (group_at t g).possible e ≡ y
          → cond x Holds (cond y (Open (Pos (variable_of t g e))) Fails) ≡ Fails → (fixed_bit ≡ 0) × (possible_bit ≡ 0)
      go true p y q h = absurd (let z : ◌≡◌ {A = ℕ} 0 1 = cc in omega arith)
      go false p true q h = absurd (let z : ◌≡◌ {A = ℕ} 0 1 = cc in omega arith)
      go false p false q h = (has-none (group_at t g).fixed e p, has-none (group_at t g).possible e q)

  opposite-fails : opposite_term (membership t e g) ≡ Fails → fixed_bit ≡ 1
  unfolding membership fixed_bit
  opposite-fails h = go (has (group_at t g).fixed e) refl (has (group_at t g).possible e) refl h
    where
      go : (x : Bool) → has (group_at t g).fixed e ≡ x → (y : Bool) → has (group_at t g).possible e ≡ y
          → opposite_term (cond x Holds (cond y (Open (Pos (variable_of t g e))) Fails)) ≡ Fails → fixed_bit ≡ 1
      go true p y q h = has_one (group_at t g).fixed e p
      go false p true q h = absurd (let z : ◌≡◌ {A = ℕ} 0 1 = cc in omega arith)
      go false p false q h = absurd (let z : ◌≡◌ {A = ℕ} 0 1 = cc in omega arith)

module _ (t : List Group) (e : ℕ) where
  false-bit : (w : ℕ) (l : Literal) → bit e w ≡ 1 → term_of (membership t e) l ≡ Fails → bit e (false_in t w l) ≡ 1
  unfolding false_in fixed_bit possible_bit
  false-bit w (Pos g) h f = omega (arith, bit-less e w (group_at t g).possible, (member-fails t e g f).1)
  false-bit w (Neg g) h f = omega (arith, bit-and e w (group_at t g).fixed, opposite-fails t e g f)

  all-false-bit : (w : ℕ) (ls : List Literal) → bit e w ≡ 1 → All (λ l. term_of (membership t e) l ≡ Fails) ls → bit e (all_false t w ls) ≡ 1
  unfolding all_false
  all-false-bit w [] h f = h
  all-false-bit w (l ∷ ls) h f = all-false-bit (false_in t w l) ls (false-bit w l h f.0) f.1

  -- so its opposite would have been made true
  made-changes : (n w : ℕ) (l : Literal) → All (SettledAmong n) t → variable l - 1 < length t → bit e w ≡ 1 → term_of (membership t e) l ≡ Fails → made_true l w t ≡ t → ⊥
  unfolding made_true fixed_with possible_without group_at fixed_bit possible_bit
  made-changes n w (Pos g) s h b f k =
      let r = group_at t g in
      let p : bit_or r.fixed w ≡ r.fixed =
      ap (λ (x : Group). x.fixed) (sym (place-get_or (g - 1) (fixed_with w) t zero_group h) ∙ ap (λ (u : List Group). get_or u (g - 1) zero_group) k) in
      omega (arith, ap (bit e) p, bit-or e r.fixed w, (member-fails t e g f).0)
  made-changes n w (Neg g) s h b f k =
      let r = group_at t g in
      let p : less r.possible w ≡ r.possible =
      ap (λ (x : Group). x.possible) (sym (place-get_or (g - 1) (possible_without w) t zero_group h) ∙ ap (λ (u : List Group). get_or u (g - 1) zero_group) k) in
      let q : SettledAmong n r = all-place (SettledAmong n) zero_group t s (g - 1) h in
      omega (arith, ap (bit e) p, bit-less e r.possible w, opposite-fails t e g f, q.group.fits.at e, bit_le e r.possible)

  -- a clause whose rule changes nothing
  clause-filled : (n : ℕ) (ls : List Literal) → All (SettledAmong n) t → e < n → HasLiteral ls → All (λ l. variable l - 1 < length t) ls → clause_rule (full n) ls t ≡ t
      → All HasLiteral (keep (map (term_of (membership t e)) ls))
  unfolding literal_rule
  clause-filled n [] s h f g k = absurd f
  clause-filled n (l ∷ after) s h f g k = kept-filled (map (term_of (membership t e)) (l ∷ after)) no_all
    where
      w : ℕ
      w = all_false t (full n) after

      no_all : All (λ x. x ≡ Fails) (map (term_of (membership t e)) (l ∷ after)) → ⊥
      no_all a =
          made-changes n w l s g.0 (all-false-bit (full n) after (bit-full n e h) ((all-map-iff (λ x. x ≡ Fails) (term_of (membership t e)) after).0 a.1)) a.0
          (first-keeps (full n) l after t k)

-- ---- every block

module _ (m : Model) (q : Settled m) where
  abbrev GoodConstraint : Constraint → Type 0
  GoodConstraint c = All (λ ls. HasLiteral ls × All (λ l. variable l - 1 < length (table_of m)) ls) (clauses_of c)

  good : (c : Constraint) → T (constraint_in_range m.s c) → T (by_entrant c.code) → GoodConstraint c
  unfolding clauses_of of_group
  good c t six =
      rw (rule_clauses_lem c.code c.count six)
      ((all-map-iff (λ ls. HasLiteral ls × All (λ l. variable l - 1 < length (table_of m)) ls) (map (of_group c.groups)) (member_clauses c.code c.count)).1
      (all-imp (λ ls. HasLiteral ls × All (λ l. variable l < member_count c.code c.count) ls)
      (λ ls. HasLiteral (map (of_group c.groups) ls) × All (λ l. variable l - 1 < length (table_of m)) (map (of_group c.groups) ls))
      (λ ls h. (
        still ls h.0,
        (all-map-iff (λ l. variable l - 1 < length (table_of m)) (of_group c.groups) ls).1
            (all-imp (λ l. variable l < member_count c.code c.count) (λ l. variable (of_group c.groups l) - 1 < length (table_of m)) below ls h.1),
      ))
      (member_clauses c.code c.count) (members-clear c.code c.count six)))
    where
      still : (ls : List Literal) → HasLiteral ls → HasLiteral (map (of_group c.groups) ls)
      still [] h = absurd h
      still (l ∷ ls) h = tt

      below : (l : Literal) → variable l < member_count c.code c.count → variable (of_group c.groups l) - 1 < length (table_of m)
      below (Pos i) h = omega (arith, member_below m.s c t i h, table-length m q.sized, (in_range_lem m q.in_range_lem).some-group)
      below (Neg i) h = omega (arith, member_below m.s c t i h, table-length m q.sized, (in_range_lem m q.in_range_lem).some-group)

  -- codes 1 to 6
  six-filled : (x : ℕ) (c : Constraint) → T (by_entrant c.code) → GoodConstraint c
      → All (λ ls. clause_rule (full m.n) ls (table_of m) ≡ table_of m) (clauses_of c) → All HasLiteral (constraint_clauses m.n (table_of m) x c)
  unfolding constraint_clauses
  six-filled x c six g k =
      (all_both HasLiteral (flat_map (clauses_at x (table_of m) c) (range 0 m.n)) (last_clause m.n x (table_of m) c)).1 (
        all-each HasLiteral (clauses_at x (table_of m) c) (range 0 m.n)
            (range_all (λ e. All HasLiteral (clauses_at x (table_of m) c e)) 0 m.n
            (λ e _ h. rw (six-at (table_of m) c six x e)
            (all-each HasLiteral (λ ls. keep (map (term_of (membership (table_of m) e)) ls)) (clauses_of c)
            (all-imp (λ ls. (HasLiteral ls × All (λ l. variable l - 1 < length (table_of m)) ls) × (clause_rule (full m.n) ls (table_of m) ≡ table_of m))
            (λ ls. All HasLiteral (keep (map (term_of (membership (table_of m) e)) ls)))
            (λ ls k. clause-filled (table_of m) e m.n ls (table-settled m q) (omega arith) k.0.0 k.0.1 k.1) (clauses_of c)
            (all-zip (λ ls. HasLiteral ls × All (λ l. variable l - 1 < length (table_of m)) ls)
            (λ ls. clause_rule (full m.n) ls (table_of m) ≡ table_of m) (clauses_of c) g k))))),
        rw (six-last (table_of m) c six m.n x) tt,
      )

  -- code 7: X is known to be false, or open
  seven-filled : (x : ℕ) (c : Constraint) → c.code ≡ 7 → T (may_differ (table_of m) c) → All HasLiteral (constraint_clauses m.n (table_of m) x c)
  unfolding constraint_clauses difference member_at fixed_bit possible_bit
  seven-filled x c seven may =
      let t = table_of m in
      (all_both HasLiteral (flat_map (clauses_at x t c) (range 0 m.n)) (last_clause m.n x t c)).1 (
        all-each HasLiteral (clauses_at x t c) (range 0 m.n) (range_all (λ e. All HasLiteral (clauses_at x t c e)) 0 m.n (λ e _ h. entrant e (is_apart t c) refl)),
        last (is_apart t c) refl,
      )
    where
      not-holds : (e : ℕ) → difference x (table_of m) c e ≡ Holds → ⊥
      not-holds e h = go (has (differing (table_of m) c) e) h
        where
          go : (b : Bool) → cond b (Open (Pos (x + size (differing (table_of m) c % 2 ^ e)))) Fails ≡ Holds → ⊥
          go true h = let k : ◌≡◌ {A = ℕ} 0 1 = cc in omega arith
          go false h = let k : ◌≡◌ {A = ℕ} 0 1 = cc in omega arith

      opposite-holds : (y : Term) → opposite_term y ≡ Fails → y ≡ Holds
      opposite-holds Holds h = refl
      opposite-holds Fails h = absurd (let k : ◌≡◌ {A = ℕ} 0 1 = cc in omega arith)
      opposite-holds (Open l) h = absurd (let k : ◌≡◌ {A = ℕ} 0 1 = cc in omega arith)

      -- fixed in the one, not possible in the other
      settled : (e : ℕ) → is_apart (table_of m) c ≡ false → opposite_term (membership (table_of m) e (get_or c.groups 0 0)) ≡ Fails
          → membership (table_of m) e (get_or c.groups 1 0) ≡ Fails → ⊥
      settled e clear p q =
          omega (
            arith,
            opposite-fails (table_of m) e (get_or c.groups 0 0) p,
            (member-fails (table_of m) e (get_or c.groups 1 0) q).1,
            (apart-bits (table_of m) c seven clear e).0,
          )

      settled_back : (e : ℕ) → is_apart (table_of m) c ≡ false → membership (table_of m) e (get_or c.groups 0 0) ≡ Fails
          → opposite_term (membership (table_of m) e (get_or c.groups 1 0)) ≡ Fails → ⊥
      settled_back e clear p q =
          omega (
            arith,
            opposite-fails (table_of m) e (get_or c.groups 1 0) q,
            (member-fails (table_of m) e (get_or c.groups 0 0) p).1,
            (apart-bits (table_of m) c seven clear e).1,
          )

      entrant : (e : ℕ) (b : Bool) → is_apart (table_of m) c ≡ b → All HasLiteral (clauses_at x (table_of m) c e)
      entrant e true met = rw (apart-at (table_of m) c seven met x e) tt
      entrant e false clear =
          let F = membership (table_of m) e (get_or c.groups 0 0) in
          let G = membership (table_of m) e (get_or c.groups 1 0) in
          let X = difference x (table_of m) c e in
          rw (four x (table_of m) c seven clear e)
          ((all_both HasLiteral (keep (opposite_term F ∷ opposite_term G ∷ opposite_term X ∷ [])) _).1 (
            kept-filled (opposite_term F ∷ opposite_term G ∷ opposite_term X ∷ []) (λ a. not-holds e (opposite-holds X a.1.1.0)),
            (all_both HasLiteral (keep (F ∷ G ∷ opposite_term X ∷ [])) _).1 (
              kept-filled (F ∷ G ∷ opposite_term X ∷ []) (λ a. not-holds e (opposite-holds X a.1.1.0)),
              (all_both HasLiteral (keep (opposite_term F ∷ G ∷ X ∷ [])) _).1 (
                kept-filled (opposite_term F ∷ G ∷ X ∷ []) (λ a. settled e clear a.0 a.1.0),
                (all_both HasLiteral (keep (F ∷ opposite_term G ∷ X ∷ [])) []).1
                    (kept-filled (F ∷ opposite_term G ∷ X ∷ []) (λ a. settled_back e clear a.0 a.1.0), tt),
              ),
            ),
          ))

      last : (b : Bool) → is_apart (table_of m) c ≡ b → All HasLiteral (last_clause m.n x (table_of m) c)
      last true met = rw (apart-last (table_of m) c seven met m.n x) tt
      last false clear =
          rw (open-last (table_of m) c seven clear m.n x)
          (kept-filled (map (difference x (table_of m) c) (range 0 m.n))
          (λ a. some-differing (table_of m) c seven clear m.n (table-settled m q) may
          (bit_ext (differing (table_of m) c) 0 (λ e. none a e (dec_lt e m.n)))))
        where
          fails : (e : ℕ) → difference x (table_of m) c e ≡ Fails → bit e (differing (table_of m) c) ≡ 0
          fails e h = go (has (differing (table_of m) c) e) refl h
            where
              go : (b : Bool) → has (differing (table_of m) c) e ≡ b → cond b (Open (Pos (x + size (differing (table_of m) c % 2 ^ e)))) Fails ≡ Fails
                  → bit e (differing (table_of m) c) ≡ 0
              go true p h = absurd (let k : ◌≡◌ {A = ℕ} 0 1 = cc in omega arith)
              go false p h = has-none (differing (table_of m) c) e p

          none : All (λ y. y ≡ Fails) (map (difference x (table_of m) c) (range 0 m.n)) → (e : ℕ) → Dec (e < m.n) → bit e (differing (table_of m) c) ≡ bit e 0
          none a e (yes l) =
              fails e (all-range (λ e. difference x (table_of m) c e ≡ Fails) 0 m.n
              ((all-map-iff (λ y. y ≡ Fails) (difference x (table_of m) c) (range 0 m.n)).0 a) e (omega arith) (omega arith))
              ∙ sym (bit-zero e)
          none a e (no l) =
              bit_past m.n e (differing (table_of m) c) (differing-lt m.n (table_of m) (table-settled m q) c) (omega arith) ∙ sym (bit-zero e)

  constraint-filled : (x : ℕ) (c : Constraint) → T (constraint_in_range m.s c) → T (may_differ (table_of m) c)
      → All (λ ls. clause_rule (scope m.n (table_of m) c) ls (table_of m) ≡ table_of m) (clauses_of c) → All HasLiteral (constraint_clauses m.n (table_of m) x c)
  constraint-filled x c t may k = go (entrant-or-seven c.code c.count (constraint-code m.s c t))
    where
      go : T (by_entrant c.code) ⊎ (c.code ≡ 7) → All HasLiteral (constraint_clauses m.n (table_of m) x c)
      go (inl six) = six-filled x c six (good c t six) (rw (six-scope (table_of m) c six m.n) at k)
      go (inr seven) = seven-filled x c seven may

  no-clauses : (x : ℕ) → All HasLiteral (constraint_clauses m.n (table_of m) x zero_constraint)
  unfolding constraint_clauses clauses_at zero_constraint member_clauses short_clauses is_apart is_open_difference is_difference last_clause
  no-clauses x =
      (all_both HasLiteral (flat_map (clauses_at x (table_of m) zero_constraint) (range 0 m.n)) []).1 (
        all-each HasLiteral (clauses_at x (table_of m) zero_constraint) (range 0 m.n)
            (range_all (λ e. All HasLiteral (clauses_at x (table_of m) zero_constraint e)) 0 m.n (λ e _ h. tt)),
        tt,
      )

  pub constraints-filled : (x : ℕ) → All (λ c. All HasLiteral (constraint_clauses m.n (table_of m) x c)) (constraints_of m)
  constraints-filled x =
      let P : Constraint → Type 0 = λ c. T (constraint_in_range m.s c) in
      let Q : Constraint → Type 0 = λ c. T (may_differ (table_of m) c) in
      let R : Constraint → Type 0 = λ c. All (λ ls. clause_rule (scope m.n (table_of m) c) ls (table_of m) ≡ table_of m) (clauses_of c) in
      all-imp (λ c. P c × (Q c × R c)) (λ c. All HasLiteral (constraint_clauses m.n (table_of m) x c))
      (λ c h. constraint-filled x c h.0 h.1.0 h.1.1) (constraints_of m)
      (all-zip P (λ c. Q c × R c) (constraints_of m) (every-all (constraint_in_range m.s) (constraints_of m) (in_range_lem m q.in_range_lem).constraints)
      (all-zip Q R (constraints_of m) (differs-keep m q) (clauses-keep m q)))

  -- refusal 29 cannot occur after 22
  pub no-empty-clause : (b : ℕ) → T (not (has_empty_clause m b))
  unfolding has_empty_clause line_clauses
  no-empty-clause b = go (ltb k b) refl
    where
      k : ℕ
      k = length (node_blocks m)

      x : ℕ
      x = first_difference (1 + table_variables (table_of m)) m (b - k)

      none-empty : (cs : List (List Literal)) → All HasLiteral cs → T (not (list_any is_empty cs))
      none-empty [] h = tt
      none-empty ([] ∷ cs) h = absurd h.0
      none-empty ((l ∷ ls) ∷ cs) h = none-empty cs h.1

      go : (x : Bool) → ltb k b ≡ x → T (not (x && list_any is_empty (block_clauses m b)))
      go false e = tt
      go true e =
          rw (line-block m b (ltb-true k b e))
          (none-empty (constraint_clauses m.n (table_of m) x (get_or (constraints_of m) (b - k - 1) zero_constraint))
          (all_get_d (λ c. All HasLiteral (constraint_clauses m.n (table_of m) x c)) zero_constraint (no-clauses x) (constraints_of m) (constraints-filled x) (b - k - 1)))
