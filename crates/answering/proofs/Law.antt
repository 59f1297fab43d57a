-- The law of the answer: demand 3 of the sheet as an order of itself, and the reader's and settling's refusals before it. Assumes nothing.
use Prim.Native.Nat.{ℕ, zero, suc, ◌-◌, ◌≤◌}
use mathlib.Core.Path.{◌≡◌, refl, sym, ap, ◌∙◌, subst}
use mathlib.Core.Logic.{◌⊎◌, ⊎_elim, inl, inr}
use mathlib.Core.Bool.{Bool, true, false, not, ◌&&◌}
use mathlib.Core.List.{List}
use native.Mathlib.Omega.{arith}
use borrow.Author.Tests.{eq-eqb, ne_eqb, eqb-true, eqb-false}
use lib.Dec.{T, eqb}
use lib.ListN.{length, take, replicate, length-replicate}
use lib.Seq.{take_at}
use Rattle.model.specs.declared.Model.{Model}
use Rattle.model.specs.declared.SheetRead.{SheetRead}
use Rattle.model.specs.declared.Propagated.{Propagated}
use Rattle.model.specs.declared.Closed.{Closed}
use Rattle.model.specs.declared.Reading.{Reading}
use Rattle.std.specs.List.{list_all}
use Rattle.model.specs.Lists.{stop}
use Rattle.model.specs.Limits.{limits}
use Rattle.model.specs.Sheet.{read_sheet}
use Rattle.model.specs.Propagate.{propagated}
use Rattle.model.specs.Cnf.{variable_count}
use Rattle.model.specs.Assignment.{nothing_said, is_said}
use Rattle.model.specs.Close.{satisfying, group_by, groups_by, closed_groups, assignment_of, close_refusal, closed}
use Rattle.model.specs.Solution.{is_solution}
use Rattle.model.specs.Demand.{Accepted, is_fresh, fresh_reading, reading_after, values_after_all}
use Rattle.model.proofs.Lists.{true-T, and_both, values_length}
use Rattle.model.proofs.Refusals.{settled-rest}
use Rattle.propagation_laws.proofs.Sheets.{accepted_of, itself, sheet_propagation}
use Rattle.correctness.specs.Demand3.{Settling, Listing, Matching, closed_after, ReadingBack, Demand3}
use Rattle.correctness.proofs.Demand3.{demand_3, sheet-settled}
use Rattle.correctness.proofs.Reading.{reading-matches, fresh-matches}
use Rattle.answering.specs.declared.Answered.{Answered}
use Rattle.answering.specs.Answers.{no_groups, closed_answer, unsaid_values, settled_answer, read_answer, answered, Given, Answers}

-- ---- demand 3 of the sheet itself

module _ (b : List ℕ) (m : Model) (h : Accepted b m) where
  abbrev q : Model
  q = (propagated m).model

  demand : Demand3 b b m
  demand = demand_3 b b m (itself b m h)

  same : demand.order ≡ m
  same = ap (λ (r : SheetRead). r.model) (sym demand.accepted ∙ h)

  pub settling : Settling m (propagated m)
  settling = subst (λ (p : Model). Settling m (propagated p)) same demand.settling

  module _ (e : (propagated m).refusal ≡ 0) where
    pub matching : Matching m q
    matching = subst (λ (p : Model). (propagated p).refusal ≡ 0 → Matching m (propagated p).model) same demand.matches e

    every-unsaid : (k : ℕ) → T (list_all (λ b. not (is_said b)) (replicate k 0))
    unfolding is_said
    every-unsaid zero = tt
    every-unsaid (suc k) = every-unsaid k

    fresh : T (is_fresh q (unsaid_values q))
    unfolding is_fresh unsaid_values
    fresh =
        and_both (eqb (length (replicate {A = ℕ} (variable_count q) 0)) (variable_count q)) (list_all (λ b. not (is_said b)) (replicate (variable_count q) 0))
        (true-T _ (eq-eqb _ _ (length-replicate {A = ℕ} (variable_count q) 0))) (every-unsaid (variable_count q))

    back : (lines : List (List ℕ)) → ReadingBack q (unsaid_values q) lines
    back lines =
        subst (λ (p : Model). (propagated p).refusal ≡ 0 → (values : List ℕ) → T (is_fresh (propagated p).model values) → (lines : List (List ℕ)) → ReadingBack (propagated p).model values lines)
        same demand.reads-back e (unsaid_values q) fresh lines

    -- the groups of a satisfying assignment, without the zeros past s, are a draw
    own-groups : (a : List Bool) → take m.s (closed_groups q a) ≡ groups_by q a
    unfolding closed_groups groups_by
    own-groups a = take_at (groups_by q a) (replicate (limits.groups - q.s) 0) m.s (values_length (group_by q a) 1 q.s ∙ (sheet_propagation b m h).kept.count)

    -- there is room for the values
    pub few : variable_count q ≤ limits.variables
    few = (subst (λ (p : Model). (propagated p).refusal ≡ 0 → Listing (propagated p).model) same demand.lists e).few

-- ---- the three ways of the answer

module _ (b : List ℕ) (lines : List (List ℕ)) where
  pub refused-answer : ((read_sheet b).refusal ≡ 0 → ⊥) → answered b lines ≡ no_groups (read_sheet b).refusal (read_sheet b).line
  unfolding answered
  refused-answer n = rw (ne_eqb (read_sheet b).refusal 0 n)

  module _ (m : Model) (h : Accepted b m) where
    accepted-answer : answered b lines ≡ settled_answer m.s (propagated m) lines
    unfolding answered
    accepted-answer = ap (λ (r : SheetRead). read_answer r lines) h

    pub out-answer : ((propagated m).refusal ≡ 0 → ⊥) → answered b lines ≡ no_groups (propagated m).refusal 0
    out-answer n = accepted-answer ∙ rw (ne_eqb (propagated m).refusal 0 n)

    pub settled-answer : (propagated m).refusal ≡ 0 → answered b lines ≡ closed_answer m.s (closed_after (propagated m).model lines (unsaid_values (propagated m).model))
    settled-answer e = accepted-answer ∙ rw (eq-eqb (propagated m).refusal 0 e)

-- ---- the parts of the law

no-refusal : (x y : ℕ) → (no_groups x y).refusal ≡ x
unfolding no_groups
no-refusal x y = refl

no-groups : (x y : ℕ) → (no_groups x y).groups ≡ replicate limits.groups 0
unfolding no_groups
no-groups x y = refl

closed_none : (q : Model) (r : Reading) (values : List ℕ) → ((closed q r values).refusal ≡ 0 → ⊥) → (closed q r values).groups ≡ replicate limits.groups 0
unfolding closed
closed_none q r values n = rw (ne_eqb (close_refusal q r values) 0 n)

close-left : (x y : Bool) → (stop (not x) 27 (stop (not y) 28 0) ≡ 0) ⊎ ((stop (not x) 27 (stop (not y) 28 0) ≡ 27) ⊎ (stop (not x) 27 (stop (not y) 28 0) ≡ 28))
close-left true true = inl refl
close-left true false = inr (inr refl)
close-left false y = inr (inl refl)

module _ (b : List ℕ) (lines : List (List ℕ)) where
  abbrev refusal_of : Answered → ℕ
  refusal_of r = r.refusal

  abbrev groups_of : Answered → List ℕ
  groups_of r = r.groups

  -- the sheet is refused, or accepted, and then settles or has no draw
  record Out (m : Model) : Type 0 where
    accepted : Accepted b m
    refusal : (propagated m).refusal ≡ 21
    answer : answered b lines ≡ no_groups 21 0

  record Settles (m : Model) : Type 0 where
    accepted : Accepted b m
    refusal : (propagated m).refusal ≡ 0
    answer : answered b lines ≡ closed_answer m.s (closed_after (propagated m).model lines (unsaid_values (propagated m).model))

  settles : (m : Model) → Accepted b m → (propagated m).refusal ≡ 0 → Settles m
  settles m h e = record { accepted = h; refusal = e; answer = settled-answer b lines m h e }

  is-out : (m : Model) → Accepted b m → (propagated m).refusal ≡ 21 → Out m
  is-out m h e = record {
    accepted = h;
    refusal = e;
    answer = out-answer b lines m h (λ z. omega arith) ∙ ap (λ (x : ℕ). no_groups x 0) e;
  }

  three : (P : Answered → Type 0) → (((read_sheet b).refusal ≡ 0 → ⊥) → P (no_groups (read_sheet b).refusal (read_sheet b).line))
      → ((m : Model) → Out m → P (no_groups 21 0))
      → ((m : Model) → Settles m → P (closed_answer m.s (closed_after (propagated m).model lines (unsaid_values (propagated m).model))))
      → P (answered b lines)
  three P f g k = go (eqb (read_sheet b).refusal 0) refl
    where
      go : (t : Bool) → eqb (read_sheet b).refusal 0 ≡ t → P (answered b lines)
      go false t = let n = eqb-false (read_sheet b).refusal 0 t in subst P (sym (refused-answer b lines n)) (f n)
      go true t =
          let m = (read_sheet b).model in
          let h = accepted_of b (read_sheet b) refl (eqb-true (read_sheet b).refusal 0 t) in
          ⊎_elim
          (λ e. let s = settles m h e in subst P (sym s.answer) (k m s))
          (λ e. let s = is-out m h e in subst P (sym s.answer) (g m s))
          (settling b m h).answered

  given : (m : Model) → Settles m → (closed_after (propagated m).model lines (unsaid_values (propagated m).model)).refusal ≡ 0
      → Given b lines (closed_answer m.s (closed_after (propagated m).model lines (unsaid_values (propagated m).model)))
  given m s z =
      let a = (back b m s.accepted s.refusal lines).only z in
      record {
        model = m;
        accepted = s.accepted;
        settles = s.refusal;
        assignment = a.assignment;
        say = record { said = a.said; closing = a.closing; satisfying = a.satisfying };
        line = refl;
        count = refl;
        groups = a.groups;
        draw = subst (λ (d : List ℕ). T (is_solution m d)) (sym (ap (take m.s) a.groups ∙ own-groups b m s.accepted s.refusal a.assignment))
            ((matching b m s.accepted s.refusal).sound a.assignment a.satisfying);
      }

  left' : (m : Model) → Accepted b m → (propagated m).refusal ≡ 0
      → ((answered b lines).refusal ≡ 0) ⊎ (((answered b lines).refusal ≡ 27) ⊎ ((answered b lines).refusal ≡ 28))
  unfolding closed close_refusal
  left' m h e =
      let q = (propagated m).model in
      let vs = unsaid_values q in
      let w = values_after_all lines fresh_reading vs in
      let s = sheet-settled b m h e in
      let k : length w ≡ variable_count q = (reading-matches (variable_count q) lines nothing_said fresh_reading vs (fresh-matches q vs (fresh b m h e))).holds.size in
      subst (λ (x : ℕ). (x ≡ 0) ⊎ ((x ≡ 27) ⊎ (x ≡ 28)))
      (sym (ap refusal_of (settled-answer b lines m h e) ∙ settled-rest q s.in_range_lem s.fixpoint _ ∙ rw (eq-eqb (length w) (variable_count q) k)))
      (close-left ((reading_after lines fresh_reading vs).closed && list_all is_said w) (satisfying q (assignment_of w)))

  pub answers : Answers b lines (answered b lines)
  answers = record {
    only =
        three (λ (r : Answered). r.refusal ≡ 0 → Given b lines r)
        (λ n z. absurd (n (sym (no-refusal _ _) ∙ z)))
        (λ m s z. absurd (let y : ◌≡◌ {A = ℕ} 21 0 = sym (no-refusal 21 0) ∙ z in omega arith))
        given;
    gives = λ m h e a s. settled-answer b lines m h e ∙ ap (closed_answer m.s) ((back b m h e lines).closes a s.said s.closing s.satisfying);
    none =
        three (λ (r : Answered). (r.refusal ≡ 0 → ⊥) → r.groups ≡ replicate limits.groups 0)
        (λ n f. no-groups _ _)
        (λ m s f. no-groups 21 0)
        (λ m s f. closed_none _ _ _ f);
    unread = refused-answer b lines;
    out = λ m h n.
        let e = ⊎_elim (λ z. absurd (n z)) (λ z. z) (settling b m h).answered in
        ((is-out m h e).answer, (settling b m h).no-solution e);
    left = left';
  }

  -- an answer that is this one has the law
  pub promised : (r : Answered) → r ≡ answered b lines → (r ≡ answered b lines) × Answers b lines r
  promised r e = (e, subst (Answers b lines) (sym e) answers)

-- ---- for the code

module _ (b : List ℕ) (lines : List (List ℕ)) (r : SheetRead) (er : r ≡ read_sheet b) where
  pub refused-promised : (r.refusal ≡ 0 → ⊥) → (a : Answered) → a ≡ no_groups r.refusal r.line → (a ≡ answered b lines) × Answers b lines a
  refused-promised n a e = promised b lines a (e ∙ rw er (sym (refused-answer b lines (λ z. n (rw er z)))))

  module _ (z : r.refusal ≡ 0) (p : Propagated) (ep : p ≡ propagated r.model) where
    acc : Accepted b r.model
    acc = accepted_of b r er z

    pub out-promised : (p.refusal ≡ 0 → ⊥) → (a : Answered) → a ≡ no_groups p.refusal 0 → (a ≡ answered b lines) × Answers b lines a
    out-promised n a e =
        let f = ap (λ (x : Propagated). x.refusal) ep in
        promised b lines a (e ∙ ap (λ (x : ℕ). no_groups x 0) f ∙ sym (out-answer b lines r.model acc (λ y. n (f ∙ y))))

    module _ (s : p.refusal ≡ 0) where
      settled_here : (propagated r.model).refusal ≡ 0
      settled_here = ap (λ (x : Propagated). x.refusal) (sym ep) ∙ s

      pub room-here : (v : ℕ) → v ≡ variable_count p.model → v ≤ limits.variables
      room-here v ev = let k = few b r.model acc settled_here in rw (ev, ep) k

      pub settled-promised : (v : ℕ) → v ≡ variable_count p.model → (values : List ℕ) → length values ≡ v
          → (c : Closed) → c ≡ closed_after p.model lines (replicate (length values) 0) → (closed_answer r.model.s c ≡ answered b lines) × Answers b lines (closed_answer r.model.s c)
      unfolding unsaid_values
      settled-promised v ev values l c ec =
          promised b lines (closed_answer r.model.s c)
          (ap (closed_answer r.model.s) (ec ∙ rw (l, ev, ep)) ∙ sym (settled-answer b lines r.model acc settled_here))
