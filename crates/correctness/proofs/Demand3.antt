-- Demand 3 holds for every accepted sheet and every order of it. Settling from the propagation laws, listing and match from the encoding laws, reading back
-- from Reading. Assumes nothing.
use mathlib.Core.Path.{◌≡◌, refl, sym, ap, ap₂, ◌∙◌, subst}
use mathlib.Core.Logic.{◌⊎◌}
use Prim.Native.Nat.{ℕ, suc, ◌+◌, ◌*◌, ◌≤◌}
use native.Mathlib.Omega.{arith}
use mathlib.Core.Bool.{Bool, true, false, not, ◌&&◌}
use mathlib.Core.List.Permᴰ
use mathlib.Core.List.{List, ◌++◌, Permᴰ}
use borrow.Author.Tests.{eq-eqb, eqb-false, le-ltb}
use lib.Dec.{T, leb, eqb, le→leb}
use lib.ListN.{length, take, drop, length-take}
use lib.Seq.{take-append_seam}
use Rattle.model.specs.declared.Literal.{Literal}
use Rattle.model.specs.declared.Group.{Group}
use Rattle.model.specs.declared.Model.{Model}
use Rattle.model.specs.declared.Written.{Written}
use Rattle.model.specs.declared.Written.TheVariants.{Bytes, Refused}
use Rattle.std.specs.List.{list_all}
use Rattle.model.specs.Lists.{pairwise, between, stop}
use Rattle.model.specs.Limits.{limits}
use Rattle.model.specs.Model.{table_of, constraints_of, members_sized}
use Rattle.model.specs.Propagate.{propagated, consistent, Settled}
use Rattle.model.specs.Cnf.{variable_count, block_count, clauses}
use Rattle.model.specs.Text.{block_text, has_empty_clause, block_refusal, written_block, block_buffer, written_refusal, written_length}
use Rattle.model.specs.Assignment.{nothing_said, variable, is_said, line_read}
use Rattle.model.specs.Close.{satisfying, groups_by, closed_groups, assignment_of, close_refusal, closed}
use Rattle.model.specs.Solution.{allowed, constraint_true, is_solution}
use Rattle.model.specs.Demand.{Accepted, OrderOf, group_within, within, unchanged, is_candidate, is_assignment, is_satisfying, fresh_reading, is_fresh, reading_after, values_after_all, says}
use Rattle.model.proofs.Lists.{T_true, T_false, T-ext, true-T, and_right, and_both, All, all-imp, every-all, all-every, all-perm, pairwise-length}
use Rattle.model.proofs.Refusals.{settled-rest}
use Rattle.propagation_laws.proofs.Propagation.{Propagation, Reordered}
use Rattle.propagation_laws.proofs.Sheets.{Accurate, accurate, order-accepted, sheet_propagation}
use Rattle.encoding_laws.proofs.Blocks.{clauses-length}
use Rattle.encoding_laws.proofs.Ranges.{In, variables-in}
use Rattle.encoding_laws.proofs.Bounds.{variables-bound, block-bound}
use Rattle.encoding_laws.proofs.Nonempty.{no-empty-clause}
use Rattle.encoding_laws.proofs.Text.{header-reads, listing-reads}
use Rattle.encoding_laws.proofs.Whole.{OneForOne, one-for-one}
use Rattle.correctness.specs.Demand3.{Listing, Matching, said_after, closed_after, Answer, ReadingBack, Demand3}
use Rattle.correctness.specs.Entries.{Matches, Listed}
use Rattle.correctness.proofs.Reading.{refusal-same, reading-matches, fresh-matches, says-size, values-say, said_all, said-assignment}

-- ---- reading back, for any settled model in range

module _ (q : Model) (s : Settled q) (values : List ℕ) (fresh : T (is_fresh q values)) (lines : List (List ℕ)) where
  end : Matches (variable_count q) (said_after q lines) (reading_after lines fresh_reading values) (values_after_all lines fresh_reading values)
  end = reading-matches (variable_count q) lines nothing_said fresh_reading values (fresh-matches q values fresh)

  -- the refusals left at closing: 27 and 28
  close-chain : close_refusal q (reading_after lines fresh_reading values) (values_after_all lines fresh_reading values)
      ≡ stop (not ((said_after q lines).closed && list_all is_said (values_after_all lines fresh_reading values))) 27
      (stop (not (satisfying q (assignment_of (values_after_all lines fresh_reading values)))) 28 0)
  unfolding close_refusal
  close-chain =
      settled-rest q s.in_range_lem s.fixpoint _
      ∙ rw (
        eq-eqb (length (values_after_all lines fresh_reading values)) (variable_count q) end.holds.size,
        end.closed,
      )

  pub reading-back : ReadingBack q values lines
  unfolding closed line_read is_satisfying is_assignment
  reading-back = record {
    judged = λ line. refusal-same (variable_count q) (said_after q lines) (reading_after lines fresh_reading values) (values_after_all lines fresh_reading values) end line;
    closes = closes';
    only = only';
  }
    where
      w : List ℕ
      w = values_after_all lines fresh_reading values

      closes' : (a : List Bool) → T (says (variable_count q) (said_after q lines).literals a) → (said_after q lines).closed ≡ true
          → T (eqb (length a) (variable_count q) && satisfying q a) → closed_after q lines values ≡ record { refusal = 0; groups = closed_groups q a }
      closes' a t c s =
          let e : a ≡ assignment_of w = said-assignment (variable_count q) (said_after q lines).literals w end.holds a t in
          let all : list_all is_said w ≡ true = T_true (list_all is_said w) (said_all (variable_count q) (said_after q lines).literals w end.holds a t) in
          let sat : satisfying q (assignment_of w) ≡ true =
          ap (satisfying q) (sym e) ∙ T_true (satisfying q a) (and_right (eqb (length a) (variable_count q)) (satisfying q a) s) in
          let z : close_refusal q (reading_after lines fresh_reading values) w ≡ 0 = close-chain ∙ rw (c, all, sat) in
          rw (z, e)

      only' : close_refusal q (reading_after lines fresh_reading values) w ≡ 0 → Answer q values lines
      only' z = go (said_after q lines).closed refl (list_all is_said w) refl (satisfying q (assignment_of w)) refl (sym close-chain ∙ z)
        where
          go : (c : Bool) → (said_after q lines).closed ≡ c → (d : Bool) → list_all is_said w ≡ d → (s : Bool) → satisfying q (assignment_of w) ≡ s
              → stop (not (c && d)) 27 (stop (not s) 28 0) ≡ 0 → Answer q values lines
          go false pc d pd s ps e = absurd (omega arith)
          go true pc false pd s ps e = absurd (omega arith)
          go true pc true pd false ps e = absurd (omega arith)
          go true pc true pd true ps e =
              let t = values-say (variable_count q) (said_after q lines).literals w end.holds (true-T (list_all is_said w) pd) in
              record {
                assignment = assignment_of w;
                said = t;
                closing = pc;
                satisfying =
                    and_both (eqb (length (assignment_of w)) (variable_count q)) (satisfying q (assignment_of w))
                    (says-size (variable_count q) (said_after q lines).literals (assignment_of w) t)
                    (true-T (satisfying q (assignment_of w)) ps);
                groups = rw z;
              }

-- ---- the listing, for any settled model in range

between-all : (v : ℕ) (cs : List (List Literal)) → All (All (In 1 (suc v))) cs → T (list_all (list_all (λ l. between 1 v (variable l))) cs)
between-all v cs h =
    all-every (list_all (λ l. between 1 v (variable l))) cs
    (all-imp (All (In 1 (suc v))) (λ c. T (list_all (λ l. between 1 v (variable l)) c))
    (λ c k. all-every (λ l. between 1 v (variable l)) c
    (all-imp (In 1 (suc v)) (λ l. T (between 1 v (variable l))) (λ l r. and_both (leb 1 (variable l)) (leb (variable l) v) (le→leb 1 (variable l) r.0) (le→leb (variable l) v (omega (arith, r.1)))) c k))
    cs h)

pub listed : (q : Model) → Settled q → Listing q
unfolding block_refusal
listed q s = record {
  written = λ k h.
      settled-rest q s.in_range_lem s.fixpoint _
      ∙ rw (
        le-ltb (block_count q) k h,
        T_false (has_empty_clause q k) (no-empty-clause q s k),
        le-ltb limits.block (length (block_text q k)) (block-bound q s k),
      );
  header = header-reads q;
  reads = listing-reads q s;
  count = clauses-length q s;
  few = variables-bound q s;
  variables = between-all (variable_count q) (clauses q) (variables-in q s);
}

-- as `write_block` promises it: of a block that was written, in a buffer as it is afterwards
pub written_listed : (m : Model) → Settled m → (b : ℕ) (before after : List ℕ) (w : Written) → w ≡ written_block m b (length before) → after ≡ block_buffer m b before
    → written_refusal w ≡ 0 → Listed m b (written_length w) after
unfolding written_block block_buffer
written_listed m s b before after w ew ea z = go (eqb (block_refusal m b (length before)) 0) refl
  where
    go : (t : Bool) → eqb (block_refusal m b (length before)) 0 ≡ t → Listed m b (written_length w) after
    go true t =
        let k : w ≡ Bytes (length (block_text m b)) = ew ∙ rw t in
        let kept : after ≡ block_text m b ++ drop (length (block_text m b)) before = ea ∙ rw t in
        record {
          text = ap₂ (λ (n : ℕ) (l : List ℕ). take n l) (ap written_length k) kept ∙ take-append_seam (block_text m b) (drop (length (block_text m b)) before);
          listing = listed m s;
        }
    go false t =
        let k : w ≡ Refused (block_refusal m b (length before)) = ew ∙ rw t in
        absurd (eqb-false (block_refusal m b (length before)) 0 t (sym (ap written_refusal k) ∙ z))

-- ---- an order has the sheet's solutions

every_perm : {A : Type 0} (p : A → Bool) {l m : List A} → Permᴰ l m → list_all p l ≡ list_all p m
every_perm p {l} {m} d =
    T-ext (list_all p l) (list_all p m) (λ t. all-every p m (all-perm (λ a. T (p a)) d (every-all p l t)))
    (λ t. all-every p l (all-perm (λ a. T (p a)) (Permᴰ.symm d) (every-all p m t)))

order-solutions : (m p : Model) → Reordered m p → (d : List ℕ) → is_solution m d ≡ is_solution p d
unfolding is_solution table_of
order-solutions m p r d =
    ap₂ (λ (a b : Bool). a && b) (ap₂ (λ (k : ℕ) (gs : List Group). pairwise allowed (take k gs) d) r.count r.groups) (every_perm (constraint_true d) r.order)

-- ---- the settled model of an accepted sheet has its lists whole

module _ (p : Model) (acc : Accurate p) (prop : Propagation p (propagated p)) (ok : (propagated p).refusal ≡ 0) where
  long : length (table_of (propagated p).model) ≡ length (table_of p)
  unfolding is_candidate within
  long =
      let t = table_of (propagated p).model in
      pairwise-length group_within t (table_of p)
      (and_right (consistent t && unchanged p t) (pairwise group_within t (table_of p)) (prop.is-candidate ok))

  settled : Settled (propagated p).model
  unfolding table_of
  settled =
      let q = (propagated p).model in
      let k = prop.kept in
      record {
        in_range_lem = prop.in_range_lem;
        fixpoint = prop.is-fixpoint ok;
        sized = record {
          groups = omega (arith, long, length-take q.s q.groups, length-take p.s p.groups, acc.sized.groups, k.count);
          constraints = omega (arith, k.constraint_count, ap length k.constraints, acc.sized.constraints);
        };
      }

  settled-members : T (members_sized (propagated p).model)
  unfolding constraints_of
  settled-members = rw (prop.kept.constraint_count, prop.kept.constraints) acc.members

-- ---- the demand

matched : (m p q : Model) → Reordered m p → ((d : List ℕ) → is_solution p d ≡ is_solution q d) → OneForOne q → Matching m q
matched m p q r e o =
    let same : (d : List ℕ) → is_solution m d ≡ is_solution q d = λ d. order-solutions m p r d ∙ e d in
    record {
      sound = λ a t. subst T (sym (same (groups_by q a))) (o.sound a t);
      found = λ d t. o.found d (subst T (same d) t);
      alone = o.alone;
    }

pub demand_3 : (b o : List ℕ) (m : Model) → OrderOf b o m → Demand3 b o m
demand_3 b o m h =
    let r = order-accepted b o m h in
    let p = r.0 in
    let whole-p = accurate o p r.1.0 in
    let prop-m = sheet_propagation b m h.accepted in
    let prop-p = sheet_propagation o p r.1.0 in
    let same = prop-m.any_order p r.1.1 in
    let q = (propagated p).model in
    record {
      order = p;
      accepted = r.1.0;
      settling = record {
        answered = prop-p.refusals;
        refused-only = λ e. prop-m.refused-only (same.0 ∙ e);
        refused-when = λ f. sym same.0 ∙ prop-m.refused-when f;
        no-solution = λ e. prop-m.no-solution (same.0 ∙ e);
        candidate = λ e. subst (λ (t : List Group). T (is_candidate m t)) same.1 (prop-m.is-candidate (same.0 ∙ e));
        widest = λ e t c. subst (λ (u : List Group). T (within t u)) same.1 (prop-m.widest (same.0 ∙ e) t c);
        passes = subst (λ (x : ℕ). (propagated p).passes ≤ x) (sym (ap₂ (λ (s n : ℕ). 2 * s * n + 1) r.1.1.count r.1.1.entrants)) prop-p.passes;
      };
      alike = sym same.0;
      table = sym same.1;
      lists = λ e. listed q (settled p whole-p prop-p e);
      matches = λ e. matched m p q r.1.1 prop-p.solutions
          (one-for-one q (settled p whole-p prop-p e) (settled-members p whole-p prop-p e));
      reads-back = λ e values f lines. reading-back q (settled p whole-p prop-p e) values f lines;
    }

-- ---- one sheet, for a certificate: 21 means no draw; a sheet that settles has a satisfying assignment for each draw

module _ (b : List ℕ) (m : Model) (h : Accepted b m) where
  pub sheet-answered : ((propagated m).refusal ≡ 0) ⊎ ((propagated m).refusal ≡ 21)
  sheet-answered = (sheet_propagation b m h).refusals

  pub sheet-none : (propagated m).refusal ≡ 21 → (d : List ℕ) → T (is_solution m d) → ⊥
  sheet-none = (sheet_propagation b m h).no-solution

  module _ (e : (propagated m).refusal ≡ 0) where
    pub sheet-settled : Settled (propagated m).model
    sheet-settled = settled m (accurate b m h) (sheet_propagation b m h) e

    pub sheet-assignment : (d : List ℕ) → T (is_solution m d) → (a : List Bool) × T (satisfying (propagated m).model a)
    unfolding is_satisfying
    sheet-assignment d t =
        let prop = sheet_propagation b m h in
        let q = (propagated m).model in
        let x = (one-for-one q sheet-settled (settled-members m (accurate b m h) prop e)).found d (subst T (prop.solutions d) t) in
        (x.0, and_right (is_assignment q x.0) (satisfying q x.0) x.1)
