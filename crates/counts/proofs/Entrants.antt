-- Laws of the clauses that an entrant keeps, and of a constraint's. Assumes nothing.
use mathlib.Core.Path.{◌≡◌, refl, sym, ap, ap₂, ◌∙◌}
use mathlib.Core.Bool.{Bool, true, false, cond, not, ◌&&◌}
use mathlib.Core.List.{List, [], ◌∷◌, ◌++◌, map}
use Prim.Native.Nat.{ℕ, zero, suc, ◌+◌, ◌≤◌, ◌<◌}
use native.Mathlib.Nat.{zero-add}
use native.Mathlib.Numerals.{add-one}
use native.Mathlib.Omega.{arith}
use lib.Dec.{T, eqb}
use lib.ListN.{length, get_or, take, length-append}
use Rattle.model.specs.declared.Literal.{Literal}
use Rattle.model.specs.declared.Literal.TheVariants.{Pos, Neg}
use Rattle.model.specs.declared.Term.{Term}
use Rattle.model.specs.declared.Term.TheVariants.{Holds, Fails, Open}
use Rattle.model.specs.declared.Group.{Group}
use Rattle.model.specs.declared.Constraint.{Constraint}
use Rattle.std.specs.List.{list_all, list_any, flat_map}
use Rattle.model.specs.Lists.{range, total}
use Rattle.model.specs.Limits.{limits}
use Rattle.model.specs.Clauses.{by_entrant, member_clauses}
use Rattle.model.specs.Totalizer.{opposite_term, holds, keep}
use Rattle.model.specs.Assignment.{variable}
use Rattle.model.specs.Difference.{is_apart}
use Rattle.model.specs.Cnf.{difference_count, clauses_at, constraint_clauses}
use Rattle.model.proofs.Lists.{All, any-map, any_none, every-range, places-all, total_const, range_last, total-append, length-each}
use Rattle.encoding_laws.proofs.Fixpoint.{SettledAmong}
use Rattle.encoding_laws.proofs.Groups.{constraint-count}
use Rattle.encoding_laws.proofs.Differences.{six-last, apart-clauses, is_open as is_open_lem, last-is}
use Rattle.terms.specs.declared.Member.{Member}
use Rattle.terms.specs.Terms.{absent, present, member_number, number_at, is_open, number_term, literal_term, clause_of, clause_terms, MembersBelow}
use Rattle.terms.proofs.Constraints.{Saying, clause-first, entrant-is}
use Rattle.counts.specs.Counts.{kept_count, entrant_count, constraint_count}

-- ---- counting the clauses that are kept

module _ (ns : List ℕ) (code count j : ℕ) where
  pub left_out : list_any holds (clause_terms ns code count j) ≡ true → 0 ≡ kept_count ns code count j
  unfolding kept_count keep
  left_out e = rw e

  pub counted-once : list_any holds (clause_terms ns code count j) ≡ false → 1 ≡ kept_count ns code count j
  unfolding kept_count keep
  counted-once e = rw e

pub total-last : (f : ℕ → ℕ) (k : ℕ) → total f (range 0 (k + 1)) ≡ total f (range 0 k) + f k
total-last f k =
    ap (λ (n : ℕ). total f (range 0 n)) (add-one k)
    ∙ ap (total f) (range_last 0 k)
    ∙ total-append f (range 0 k) ((0 + k) ∷ [])
    ∙ omega (arith, ap f (zero-add k))

total-range_ext : (f g : ℕ → ℕ) (i n : ℕ) → ((j : ℕ) → i ≤ j → j < i + n → f j ≡ g j) → total f (range i n) ≡ total g (range i n)
total-range_ext f g i zero h = refl
total-range_ext f g i (suc n) h =
    ap₂ (λ (a b : ℕ). a + b) (h i (omega arith) (omega arith)) (total-range_ext f g (suc i) n (λ j l k. h j (omega arith) (omega arith)))

pub count-first : (ns us : List ℕ) (k code count : ℕ) → MembersBelow k code count → take k ns ≡ us → entrant_count ns code count ≡ entrant_count us code count
unfolding entrant_count kept_count
count-first ns us k code count w e =
    total-range_ext (kept_count ns code count) (kept_count us code count) 0 (length (member_clauses code count))
    (λ j _ h. ap (λ (l : List Term). length (keep l)) (clause-first ns us k code count w e j (omega arith)))

-- ---- an entrant whose members are all open keeps every clause

open_both : (x : ℕ) → T (is_open x) → (holds (number_term x) ≡ false) × (holds (opposite_term (number_term x)) ≡ false)
unfolding is_open number_term
open_both x t = go (eqb x absent) (eqb x present) t
  where
    go : (a p : Bool) → T (not a && not p)
        → (holds (cond a Fails (cond p Holds (Open (Pos x)))) ≡ false) × (holds (opposite_term (cond a Fails (cond p Holds (Open (Pos x))))) ≡ false)
    go false false t = (refl, refl)
    go false true t = absurd t
    go true p t = absurd t

module _ (ns : List ℕ) (k code count : ℕ) (w : MembersBelow k code count) (t : T (list_all (λ i. is_open (number_at ns i)) (range 0 k))) where
  open_at : (i : ℕ) → i < k → T (is_open (number_at ns i))
  open_at i h = every-range (λ i. is_open (number_at ns i)) 0 k t i (omega arith) (omega arith)

  literal-open : (l : Literal) → variable l < k → holds (literal_term ns l) ≡ false
  literal-open (Pos i) h = (open_both (number_at ns i) (open_at i h)).0
  literal-open (Neg i) h = (open_both (number_at ns i) (open_at i h)).1

  kept-one : (j : ℕ) → j < length (member_clauses code count) → kept_count ns code count j ≡ 1
  unfolding clause_terms
  kept-one j h =
      sym (counted-once ns code count j
      (any-map holds (literal_term ns) (clause_of code count j)
      ∙ any_none (λ l. holds (literal_term ns l)) (clause_of code count j)
      (places-all (λ l. holds (literal_term ns l) ≡ false) (Pos 0) (clause_of code count j)
      (λ i l. literal-open (get_or (clause_of code count j) i (Pos 0)) (w.below j i h l)))))

  pub all-kept : entrant_count ns code count ≡ length (member_clauses code count)
  unfolding entrant_count
  all-kept =
      total_const (kept_count ns code count) 1 0 (length (member_clauses code count)) (λ j _ h. kept-one j (omega arith))
      ∙ omega arith

-- ---- how many clauses a constraint has, but for a code 7 line's last

module _ (x : ℕ) (t : List Group) (c : Constraint) (ms : List Member) (k : ℕ) (says : Saying x t c ms k) (clear : is_apart t c ≡ false)
    (w : MembersBelow k c.code c.count) where
  pub entrants-length : (n : ℕ) → n ≤ limits.entrants → length (flat_map (clauses_at x t c) (range 0 n)) ≡ constraint_count ms c.code c.count n
  unfolding constraint_count entrant_count kept_count
  entrants-length n h =
      length-each (clauses_at x t c) (range 0 n)
      ∙ total-range_ext (λ e. length (clauses_at x t c e)) (λ e. entrant_count (map (member_number e) ms) c.code c.count) 0 n
      (λ e _ l. ap length (entrant-is x t c ms k says clear w e (omega arith)) ∙ length-each _ (range 0 (length (member_clauses c.code c.count))))

module _ (t : List Group) (c : Constraint) where
  pub six-length : T (by_entrant c.code) → (n k : ℕ) → length (flat_map (clauses_at 0 t c) (range 0 n)) ≡ k → length (constraint_clauses n t 0 c) ≡ k
  unfolding constraint_clauses
  six-length six n k e =
      ap (λ (l : List (List Literal)). length (flat_map (clauses_at 0 t c) (range 0 n) ++ l)) (six-last t c six n 0)
      ∙ length-append (flat_map (clauses_at 0 t c) (range 0 n)) []
      ∙ omega arith

  -- code 7, by the X numbered from 1 on
  module _ (seven : c.code ≡ 7) (n : ℕ) where
    pub apart-length : is_apart t c ≡ true → 0 ≡ length (constraint_clauses n t 0 c)
    apart-length e = sym (ap length (apart-clauses t c seven e n 0))

    pub seven-length : All (SettledAmong n) t → is_apart t c ≡ false → (k : ℕ) → length (flat_map (clauses_at 1 t c) (range 0 n)) ≡ k
        → k + 1 ≡ length (constraint_clauses n t 0 c)
    unfolding constraint_clauses
    seven-length s clear k e =
        sym (constraint-count t c 0 1 n
        ∙ ap (λ (l : List (List Literal)). length (flat_map (clauses_at 1 t c) (range 0 n) ++ l)) (last-is n 1 t s c (is_open_lem t c seven clear))
        ∙ length-append (flat_map (clauses_at 1 t c) (range 0 n)) (map Pos (range 1 (difference_count t c)) ∷ [])
        ∙ omega arith)
