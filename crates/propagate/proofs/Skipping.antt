-- Laws of the loops over marked rules: what is not marked is passed over. Assumes nothing.
use mathlib.Core.Path.{◌≡◌, refl, sym, ap, ◌∙◌, subst}
use Prim.Native.Nat.{ℕ, zero, suc, ◌+◌, ◌-◌, ◌/◌, ◌%◌, ◌≤◌, ◌<◌}
use native.Mathlib.Nat.{sub-zero}
use native.Mathlib.Numerals.{add-one}
use native.Mathlib.Omega.{arith}
use mathlib.Core.Bool.{Bool, true, false, cond, ◌&&◌, ◌||◌}
use mathlib.Core.List.{List, [], ◌∷◌, map}
use borrow.Author.Tests.{leb-true, leb-false}
use lib.Dec.{T, leb}
use lib.ListN.{length, drop, take, replicate, drop_of_length-le, get_or-replicate}
use Rattle.model.specs.declared.Group.{Group}
use Rattle.model.specs.declared.Constraint.{Constraint}
use Rattle.std.specs.List.{list_all}
use Rattle.model.specs.Lists.{pairwise, range}
use Rattle.model.specs.Difference.{may_differ}
use Rattle.model.specs.Model.{zero_constraint}
use Rattle.model.specs.Words.{full, has}
use Rattle.model.proofs.Words.{bit-full, one_has}
use Rattle.model.specs.Propagate.{group_rule_at, constraint_rule, run, rules, consistent, tenable, same_table, contradiction, fixpoint, after_pass, iterate}
use Rattle.model.specs.Demand.{group_within}
use Rattle.model.proofs.Lists.{T_true, true-T, and_left, and_right, and_both, all_left, all_right, map-all, all-range, all-place}
use Rattle.model.proofs.Loops.{drop-next}
use Rattle.propagation_laws.proofs.Fixpoint.{all-reduce, run-reduces, run-unchanged}
use Rattle.propagation_laws.proofs.GroupRule.{table_frame}
use Rattle.propagation_laws.proofs.ConstraintRule.{constraint_frame, all-rules}
use Rattle.table.proofs.Rules.{run-append}
use Rattle.propagation_laws.proofs.AtTheEnd.{late}
use Rattle.marks.specs.Marks.{marked, NoneFrom}
use Rattle.propagate.proofs.Noting.{or-left-none, or_right_none, false-or}
use Rattle.propagate.specs.Skip.{line_at, Index, Quiet, Step, Any, Line, group_rules, GroupsStill, GroupSteps, loose, tenable_first}

-- ---- groups i + 1 to s

groups-start : (s : ℕ) (t : List Group) → run (map group_rule_at (range 1 s)) t ≡ run (map group_rule_at (range 1 (s - 0))) t
groups-start s t = ap (λ (k : ℕ). run (map group_rule_at (range 1 k)) t) (sym (sub-zero s))

module _ (s i : ℕ) (t : List Group) where
  groups-next : i < s → (u : List Group) → u ≡ group_rule_at (i + 1) t
      → run (map group_rule_at (range (i + 1) (s - i))) t ≡ run (map group_rule_at (range (i + 1 + 1) (s - (i + 1)))) u
  groups-next h u e = ap (λ (k : ℕ). run (map group_rule_at (range (i + 1) k)) t) left ∙ rw (e, add-one (i + 1))
    where
      left : s - i ≡ suc (s - (i + 1))
      left = omega arith

  groups-end : s ≤ i → run (map group_rule_at (range (i + 1) (s - i))) t ≡ t
  groups-end h = let z : s - i ≡ 0 = omega arith in ap (λ (k : ℕ). run (map group_rule_at (range (i + 1) k)) t) z

abbrev groups_from : ℕ → ℕ → List Group → List Group
groups_from s i = run (map group_rule_at (range (i + 1) (s - i)))

skip_one : (s i : ℕ) (t : List Group) → (i < s → group_rule_at (i + 1) t ≡ t) → groups_from s i t ≡ groups_from s (i + 1) t
skip_one s i t h = go (leb s i) refl
  where
    go : (b : Bool) → leb s i ≡ b → groups_from s i t ≡ groups_from s (i + 1) t
    go true e = let l = leb-true s i e in groups-end s i t l ∙ sym (groups-end s (i + 1) t (omega arith))
    go false e = let l = leb-false s i e in groups-next s i t l t (sym (h l))

skip_groups : (s d i : ℕ) (t : List Group) → ((k : ℕ) → i ≤ k → k < i + d → k < s → group_rule_at (k + 1) t ≡ t) → groups_from s i t ≡ groups_from s (i + d) t
skip_groups s zero i t h = let e : i ≡ i + 0 = omega arith in ap (λ (k : ℕ). groups_from s k t) e
skip_groups s (suc d) i t h =
    let e : i + 1 + d ≡ i + suc d = omega arith in
    skip_one s i t (h i (omega arith) (omega arith))
    ∙ skip_groups s d (i + 1) t (λ k a b. h k (omega arith) (omega arith))
    ∙ ap (λ (k : ℕ). groups_from s k t) e

-- those that are not marked, from i to below j
skip_quiet : (n s : ℕ) (cs : List Constraint) (gs ls : List ℕ) (t : List Group) (i j : ℕ) → Quiet n s cs gs ls t → i ≤ j → NoneFrom gs i j
    → groups_from s i t ≡ groups_from s j t
skip_quiet n s cs gs ls t i j q l f =
    let e : i + (j - i) ≡ j = omega arith in
    skip_groups s (j - i) i t (λ k a b h. q.groups k h (f k a (omega arith))) ∙ ap (λ (k : ℕ). groups_from s k t) e

-- those from i on are left
pub record GroupsLeft (s : ℕ) (index : List ℕ) (i : ℕ) (changed : Bool) (a : List Group) (gs ls : List ℕ) (t : List Group) (gs₁ ls₁ : List ℕ) : Type 0 where
  pub same : changed ≡ false → t ≡ a
  pub still : GroupsStill s a → changed ≡ false
  pub goes : (n : ℕ) (cs : List Constraint) → Index cs index → Quiet n s cs gs ls a
      → (group_rules s a ≡ run (map group_rule_at (range (i + 1) (s - i))) t) × Quiet n s cs gs₁ ls₁ t

module _ (s : ℕ) (index : List ℕ) (a : List Group) (gs ls : List ℕ) where
  pub groups-begin : (i : ℕ) → NoneFrom gs 0 i → GroupsLeft s index i false a gs ls a gs ls
  groups-begin i f = record {
    same = λ e. refl;
    still = λ h. refl;
    goes = λ n cs x q. (groups-start s a ∙ skip_quiet n s cs gs ls a 0 i q (omega arith) f, q);
  }

  pub groups-go : (i : ℕ) (changed : Bool) (t : List Group) (gs₁ ls₁ : List ℕ) → GroupsLeft s index i changed a gs ls t gs₁ ls₁ → i < s
      → (r : Bool) (u y : List Group) (gs₂ ls₂ : List ℕ) → Step Any (group_rule_at (i + 1)) index r t gs₁ ls₁ u y gs₂ ls₂
      → (j : ℕ) → i + 1 ≤ j → NoneFrom gs₂ (i + 1) j → GroupsLeft s index j (changed || r) a gs ls u gs₂ ls₂
  groups-go i changed t gs₁ ls₁ inv h r u y gs₂ ls₂ p j l f = record {
    same = λ e. p.same (or_right_none changed r e) ∙ inv.same (or-left-none changed r e);
    still = λ k.
        let c = inv.still k in
        false-or changed r c (p.still (subst (λ (z : List Group). group_rule_at (i + 1) z ≡ z) (sym (inv.same c)) (k i h)));
    goes = λ n cs x q.
        let b = inv.goes n cs x q in
        let v = p.quiet n s cs tt x b.1 in
        (b.0 ∙ groups-next s i t h u p.next ∙ skip_quiet n s cs gs₂ ls₂ u (i + 1) j v l f, v);
  }

-- ---- lines j + 1 on

abbrev lines_from : ℕ → List Constraint → ℕ → List Group → List Group
lines_from n cs j = run (map (constraint_rule n) (drop j cs))

line-one : (n : ℕ) (cs : List Constraint) (j : ℕ) (t u : List Group) → (j < length cs → u ≡ constraint_rule n (line_at cs j) t) → (length cs ≤ j → u ≡ t)
    → lines_from n cs j t ≡ lines_from n cs (j + 1) u
line-one n cs j t u f g = go (leb (length cs) j) refl
  where
    go : (b : Bool) → leb (length cs) j ≡ b → lines_from n cs j t ≡ lines_from n cs (j + 1) u
    go true e =
        let l = leb-true (length cs) j e in
        let k : length cs ≤ j + 1 = omega arith in
        ap (λ (xs : List Constraint). run (map (constraint_rule n) xs) t) (drop_of_length-le cs l)
        ∙ sym (g l)
        ∙ sym (ap (λ (xs : List Constraint). run (map (constraint_rule n) xs) u) (drop_of_length-le cs k))
    go false e =
        let l = leb-false (length cs) j e in
        ap (λ (xs : List Constraint). run (map (constraint_rule n) xs) t) (drop-next zero_constraint cs j l)
        ∙ ap (lines_from n cs (j + 1)) (sym (f l))

skip_lines : (n : ℕ) (cs : List Constraint) (d j : ℕ) (t : List Group) → ((k : ℕ) → j ≤ k → k < j + d → k < length cs → constraint_rule n (line_at cs k) t ≡ t)
    → lines_from n cs j t ≡ lines_from n cs (j + d) t
skip_lines n cs zero j t h = let e : j ≡ j + 0 = omega arith in ap (λ (k : ℕ). lines_from n cs k t) e
skip_lines n cs (suc d) j t h =
    let e : j + 1 + d ≡ j + suc d = omega arith in
    line-one n cs j t t (λ l. sym (h j (omega arith) (omega arith) l)) (λ l. refl)
    ∙ skip_lines n cs d (j + 1) t (λ k a b. h k (omega arith) (omega arith))
    ∙ ap (λ (k : ℕ). lines_from n cs k t) e

quiet-lines : (n s : ℕ) (cs : List Constraint) (gs ls : List ℕ) (t : List Group) (i j : ℕ) → Quiet n s cs gs ls t → i ≤ j → NoneFrom ls i j
    → lines_from n cs i t ≡ lines_from n cs j t
quiet-lines n s cs gs ls t i j q l f =
    let e : i + (j - i) ≡ j = omega arith in
    skip_lines n cs (j - i) i t (λ k a b h. q.lines k h (f k a (omega arith))) ∙ ap (λ (k : ℕ). lines_from n cs k t) e

-- no rule changes the table
pub record Still (n s : ℕ) (cs : List Constraint) (a : List Group) : Type 0 where
  pub groups : GroupsStill s a
  pub lines : (j : ℕ) → j < length cs → constraint_rule n (line_at cs j) a ≡ a

-- of a pass from a, the lines from j on are left
pub record LinesLeft (n s : ℕ) (cs : List Constraint) (j : ℕ) (changed : Bool) (a t : List Group) (gs ls : List ℕ) : Type 0 where
  pub same : changed ≡ false → t ≡ a
  pub still : Still n s cs a → changed ≡ false
  pub goes : run (rules n s cs) a ≡ run (map (constraint_rule n) (drop j cs)) t
  pub quiet : Quiet n s cs gs ls t

module _ (n s : ℕ) (cs : List Constraint) (index : List ℕ) (x : Index cs index) (a : List Group) where
  pub lines-begin : (gs ls : List ℕ) → Quiet n s cs gs ls a → (changed : Bool) (t : List Group) (gs₁ ls₁ : List ℕ) → GroupSteps s index changed a gs ls t gs₁ ls₁
      → (j : ℕ) → NoneFrom ls₁ 0 j → LinesLeft n s cs j changed a t gs₁ ls₁
  unfolding rules
  lines-begin gs ls q changed t gs₁ ls₁ p j f =
      let b = p.goes n cs x q in
      record {
        same = p.same;
        still = λ h. p.still h.groups;
        goes =
            run-append (map group_rule_at (range 1 s)) (map (constraint_rule n) cs) a
            ∙ ap (run (map (constraint_rule n) cs)) (sym b.0)
            ∙ quiet-lines n s cs gs₁ ls₁ t 0 j b.1 (omega arith) f;
        quiet = b.1;
      }

  pub lines-go : (j : ℕ) (changed : Bool) (t : List Group) (gs ls : List ℕ) → LinesLeft n s cs j changed a t gs ls → j < length cs
      → (l : Constraint) → line_at cs j ≡ l → (r : Bool) (u y : List Group) (gs₁ ls₁ : List ℕ) → Step (Line n j l) (constraint_rule n l) index r t gs ls u y gs₁ ls₁
      → (k : ℕ) → j + 1 ≤ k → NoneFrom ls₁ (j + 1) k → LinesLeft n s cs k (changed || r) a u gs₁ ls₁
  lines-go j changed t gs ls inv h l e r u y gs₁ ls₁ p k m f =
      let v = p.quiet n s cs (refl, (h, e)) x inv.quiet in
      record {
        same = λ o. p.same (or_right_none changed r o) ∙ inv.same (or-left-none changed r o);
        still = λ o.
            let c = inv.still o in
            false-or changed r c (p.still (subst (λ (z : List Group). constraint_rule n l z ≡ z) (sym (inv.same c))
            (subst (λ (z : Constraint). constraint_rule n z a ≡ a) e (o.lines j h))));
        goes =
            inv.goes
            ∙ line-one n cs j t u (λ _. p.next ∙ ap (λ (z : Constraint). constraint_rule n z t) (sym e)) (λ o. absurd (omega arith))
            ∙ quiet-lines n s cs gs₁ ls₁ u (j + 1) k v m f;
        quiet = v;
      }

-- ---- a pass

module _ (n s : ℕ) (cs : List Constraint) (a t : List Group) where
  pub pass-end : (j : ℕ) (changed : Bool) (gs ls : List ℕ) → LinesLeft n s cs j changed a t gs ls → length cs ≤ j → t ≡ run (rules n s cs) a
  pass-end j changed gs ls inv h =
      sym (inv.goes ∙ ap (λ (xs : List Constraint). run (map (constraint_rule n) xs) t) (drop_of_length-le cs h))

  -- a pass that gives the same table: no rule changes it
  still-all : run (rules n s cs) a ≡ a → Still n s cs a
  unfolding rules
  still-all e =
      let P : (List Group → List Group) → Type 0 = λ r. r a ≡ a in
      let F = constraint_frame cs in
      let gs = map group_rule_at (range 1 s) in
      let ls = map (constraint_rule n) cs in
      let every_one = run-unchanged F (rules n s cs) (all-reduce F (rules n s cs) (all-rules n s cs)) a e in
      record {
        groups = λ i h. all-range (λ g. group_rule_at g a ≡ a) 1 s (map-all P group_rule_at (range 1 s) (all_left P gs ls every_one)) (i + 1) (omega arith) (omega arith);
        lines = λ j h. all-place (λ c. constraint_rule n c a ≡ a) zero_constraint cs (map-all P (constraint_rule n) cs (all_right P gs ls every_one)) j h;
      }

  -- so the flag is the definition's test
  pub flag_is : (j : ℕ) (changed : Bool) (gs ls : List ℕ) → LinesLeft n s cs j changed a t gs ls → t ≡ run (rules n s cs) a → changed ≡ true → same_table t a ≡ false
  flag_is j changed gs ls inv e on = go (same_table t a) refl
    where
      go : (b : Bool) → same_table t a ≡ b → b ≡ false
      go false q = refl
      go true q =
          let same : t ≡ a = unfold same_table in table_frame.same-eq t a (true-T (same_table t a) q) in
          let off : changed ≡ false = inv.still (still-all (sym e ∙ same)) in
          let z : ◌≡◌ {A = ℕ} 0 1 = cc in absurd (omega arith)

  pub flag_off : (j : ℕ) (changed : Bool) (gs ls : List ℕ) → LinesLeft n s cs j changed a t gs ls → changed ≡ false → same_table t a ≡ true
  unfolding same_table
  flag_off j changed gs ls inv off =
      T_true (same_table t a) (subst (λ (z : List Group). T (same_table z a)) (sym (inv.same off)) (table_frame.same_refl a))

-- ---- passes

module _ (n s : ℕ) (cs : List Constraint) (fuel k : ℕ) (a t : List Group) (e : t ≡ run (rules n s cs) a) (more : k < fuel) where
  once : loose n s cs (fuel - k) k a ≡ after_pass true (same_table t a) k t (loose n s cs (fuel - (k + 1)) (k + 1) t)
  unfolding iterate
  once =
      ap (λ (f : ℕ). loose n s cs f k a) less-by-one
      ∙ sym (ap (λ (y : List Group). after_pass true (same_table y a) k y (loose n s cs (fuel - (k + 1)) (suc k) y)) e)
      ∙ ap (λ (j : ℕ). after_pass true (same_table t a) k t (loose n s cs (fuel - (k + 1)) j t)) (sym (add-one k))
    where
      less-by-one : fuel - k ≡ suc (fuel - (k + 1))
      less-by-one = omega arith

  pub loose-more : same_table t a ≡ false → loose n s cs (fuel - k) k a ≡ loose n s cs (fuel - (k + 1)) (k + 1) t
  loose-more f = once ∙ rw f

  pub loose-ends : same_table t a ≡ true → loose n s cs (fuel - k) k a ≡ fixpoint (k + 1) t
  loose-ends f = once ∙ rw (f, add-one k)

pub loose-start : (n s : ℕ) (cs : List Constraint) (fuel : ℕ) (a : List Group) → loose n s cs fuel 0 a ≡ loose n s cs (fuel - 0) 0 a
loose-start n s cs fuel a = let e : fuel ≡ fuel - 0 = omega arith in ap (λ (f : ℕ). loose n s cs f 0 a) e

pub loose_none : (n s : ℕ) (cs : List Constraint) (fuel k : ℕ) (a : List Group) → fuel ≤ k → loose n s cs (fuel - k) k a ≡ contradiction
unfolding iterate
loose_none n s cs fuel k a h = let e : fuel - k ≡ 0 = omega arith in ap (λ (f : ℕ). loose n s cs f k a) e

-- ---- at the start every rule is marked

all-marked : (i : ℕ) → i < 256 → marked (replicate 4 18446744073709551615) i ≡ true
unfolding marked
all-marked i h =
    ap (λ (w : ℕ). has w (i % 64)) (get_or-replicate 4 (i / 64) 18446744073709551615 0 (omega arith))
    ∙ one_has 18446744073709551615 (i % 64) (unfold full in bit-full 64 (i % 64) (omega arith))

pub quiet-start : (n s : ℕ) (cs : List Constraint) (t : List Group) → s ≤ 256 → length cs ≤ 256
    → Quiet n s cs (replicate 4 18446744073709551615) (replicate 4 18446744073709551615) t
quiet-start n s cs t a b = record {
  groups = λ i h e. let o = all-marked i (omega arith) in let z : ◌≡◌ {A = ℕ} 0 1 = cc in absurd (omega arith);
  lines = λ j h e. let o = all-marked j (omega arith) in let z : ◌≡◌ {A = ℕ} 0 1 = cc in absurd (omega arith);
}

-- a pass is under way: it started from some table, with so many passes left
pub record PassLeft (n s : ℕ) (cs : List Constraint) (fuel : ℕ) (first : List Group) (k j : ℕ) (changed : Bool) (t : List Group) (gs ls : List ℕ) : Type 0 where
  pub start : List Group
  pub outcome : loose n s cs (fuel - 1) 1 first ≡ loose n s cs (fuel - k) k start
  pub left : LinesLeft n s cs j changed start t gs ls

module _ (n s : ℕ) (cs : List Constraint) (fuel : ℕ) (first : List Group) (k j : ℕ) (changed : Bool) (t : List Group) (gs ls : List ℕ)
    (inv : PassLeft n s cs fuel first k j changed t gs ls) (h : length cs ≤ j) (more : k < fuel) where
  is-pass : t ≡ run (rules n s cs) inv.start
  is-pass = pass-end n s cs inv.start t j changed gs ls inv.left h

  pub pass-stops : changed ≡ false → loose n s cs (fuel - 1) 1 first ≡ fixpoint (k + 1) t
  pass-stops off = inv.outcome ∙ loose-ends n s cs fuel k inv.start t is-pass more (flag_off n s cs inv.start t j changed gs ls inv.left off)

  pub pass-goes-on : changed ≡ true → loose n s cs (fuel - 1) 1 first ≡ loose n s cs (fuel - (k + 1)) (k + 1) t
  pass-goes-on on = inv.outcome ∙ loose-more n s cs fuel k inv.start t is-pass more (flag_is n s cs inv.start t j changed gs ls inv.left is-pass on)

-- ---- a table that is not tenable stays so

pairwise_take : (s : ℕ) (x y : List Group) → T (pairwise group_within x y) → T (pairwise group_within (take s x) (take s y))
pairwise_take zero x y h = tt
pairwise_take (suc s) [] [] h = tt
pairwise_take (suc s) [] (b ∷ y) h = absurd h
pairwise_take (suc s) (a ∷ x) [] h = absurd h
pairwise_take (suc s) (a ∷ x) (b ∷ y) h =
    and_both (group_within a b) (pairwise group_within (take s x) (take s y)) (and_left (group_within a b) (pairwise group_within x y) h)
    (pairwise_take s x y (and_right (group_within a b) (pairwise group_within x y) h))

module _ (n s : ℕ) (cs : List Constraint) where
  bad-stays : (a : List Group) → tenable_first s cs a ≡ false → tenable_first s cs (run (rules n s cs) a) ≡ false
  unfolding tenable consistent
  bad-stays a e = go (tenable_first s cs (run (rules n s cs) a)) refl
    where
      go : (b : Bool) → tenable_first s cs (run (rules n s cs) a) ≡ b → b ≡ false
      go false q = refl
      go true q =
          let F = constraint_frame cs in
          let rs = rules n s cs in
          let w = pairwise_take s (run rs a) a (run-reduces F rs (all-reduce F rs (all-rules n s cs)) a) in
          sym (T_true (tenable_first s cs a) (unfold tenable consistent in F.ok-up (take s (run rs a)) (take s a) w (true-T (tenable_first s cs (run rs a)) q))) ∙ e

  pub late-bad : (fuel k : ℕ) (a : List Group) → tenable_first s cs a ≡ false → late (tenable_first s cs) (loose n s cs fuel k a) ≡ contradiction
  unfolding iterate
  late-bad zero k a e = refl
  late-bad (suc fuel) k a e = go (late-bad fuel (suc k) (run (rules n s cs) a) (bad-stays a e)) (same_table (run (rules n s cs) a) a)
    where
      go : late (tenable_first s cs) (loose n s cs fuel (suc k) (run (rules n s cs) a)) ≡ contradiction
          → (x : Bool) → late (tenable_first s cs) (after_pass true x k (run (rules n s cs) a) (loose n s cs fuel (suc k) (run (rules n s cs) a))) ≡ contradiction
      go ih true = ap (λ (b : Bool). cond b (fixpoint (suc k) (run (rules n s cs) a)) contradiction) (bad-stays a e)
      go ih false = ih

-- at a pass's end
module _ (n s : ℕ) (cs : List Constraint) (fuel : ℕ) (first : List Group) (k j : ℕ) (changed : Bool) (t : List Group) (gs ls : List ℕ)
    (inv : PassLeft n s cs fuel first k j changed t gs ls) (h : length cs ≤ j) (more : k < fuel) where
  pub pass-bad : changed ≡ true → (q : Bool) → q ≡ consistent (take s t) → q ≡ false → late (tenable_first s cs) (loose n s cs (fuel - 1) 1 first) ≡ contradiction
  pass-bad on q e f =
      let bad : tenable_first s cs t ≡ false = unfold tenable in ap (λ (x : Bool). x && list_all (may_differ (take s t)) cs) (sym e ∙ f) in
      ap (late (tenable_first s cs)) (pass-goes-on n s cs fuel first k j changed t gs ls inv h more on) ∙ late-bad n s cs (fuel - (k + 1)) (k + 1) t bad
