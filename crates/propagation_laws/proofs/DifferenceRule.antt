-- What the line rule of code 7 does, in the words of the request. Assumes nothing.
use mathlib.Core.Path.{◌≡◌, refl, sym, ap, ◌∙◌}
use Prim.Native.Nat.{ℕ, zero, suc, ◌+◌, ◌-◌, ◌≤◌, ◌<◌}
use native.Mathlib.Omega.{arith}
use native.Mathlib.Decide.{ℕ_discrete}
use mathlib.Core.Bool.{Bool, true, false, cond}
use mathlib.Core.List.{List, [], ◌∷◌, map}
use lib.Dec.{T, eqb}
use lib.Bits.{bit_and, bit_or}
use lib.ListN.{length, get_or}
use Rattle.model.specs.declared.Literal.TheVariants.{Pos, Neg}
use Rattle.model.specs.declared.Group.{Group}
use Rattle.model.specs.declared.Constraint.{Constraint}
use Rattle.model.specs.Lists.{on_place}
use Rattle.model.specs.Words.{full, less, size, bit}
use Rattle.model.specs.Clauses.{is_difference, rule_clauses, of_group, groups_of, clauses_of}
use Rattle.model.specs.Model.{zero_group, group_at, member_at}
use Rattle.model.specs.LimitRules.{limits_of, limit_rules}
use Rattle.model.specs.Difference.{unlike, unlike_in, lone}
use Rattle.model.specs.Propagate.{false_in, all_false, fixed_with, possible_without, made_true, literal_rule, run, clause_rules, clause_rule, scope, constraint_rule}
use Rattle.model.proofs.Lists.{place_same, place-get_or, place-length, pairwise-length}
use Rattle.model.proofs.Words.{bit-zero, bit_le, bit-and, bit-or, bit-less, bit_ext}
use Rattle.model.specs.Demand.{group_within}
use Rattle.propagation_laws.proofs.Fixpoint.{run-fixed}
use Rattle.propagation_laws.proofs.GroupRule.{group-eq, table_frame, group-narrow}
use Rattle.propagation_laws.proofs.ConstraintRule.{literal_rule_lem}
use Rattle.propagation_laws.proofs.Locality.{place_other}
use Rattle.propagation_laws.proofs.NothingElse.{SettledIn, NothingElse}

not-one : (b : ℕ) → b ≤ 1 → (b ≡ 1 → ⊥) → b ≡ 0
not-one zero l f = refl
not-one (suc zero) l f = absurd (f refl)
not-one (suc (suc b)) l f = absurd (omega arith)

-- what a change of one place leaves as it is, it leaves at every place
place_kept : {B : Type 0} (f : Group → B) (i k : ℕ) (r : Group → Group) (t : List Group)
    → f (r (get_or t k zero_group)) ≡ f (get_or t k zero_group) → f (get_or (on_place i r t) k zero_group) ≡ f (get_or t k zero_group)
place_kept f i k r [] h = refl
place_kept f zero zero r (x ∷ t) h = h
place_kept f zero (suc k) r (x ∷ t) h = refl
place_kept f (suc i) zero r (x ∷ t) h = refl
place_kept f (suc i) (suc k) r (x ∷ t) h = place_kept f i k r t h

-- a literal of a clause of two, among the entrants of w
module _ (w g h : ℕ) (t : List Group) where
  abbrev pub put_in : List Group
  put_in = literal_rule w (Pos g) (Pos h ∷ []) t

  abbrev pub taken_out : List Group
  taken_out = literal_rule w (Neg g) (Neg h ∷ []) t

  put-in : (e : ℕ) → g - 1 < length t → bit e w ≡ 1 → bit e (group_at t h).possible ≡ 0 → bit e (group_at put_in g).fixed ≡ 1
  unfolding literal_rule all_false false_in made_true fixed_with group_at
  put-in e l b p =
      let q = (group_at t h).possible in
      let f = (group_at t g).fixed in
      let k = place-get_or (g - 1) (fixed_with (less w q)) t zero_group l in
      omega (arith, ap (λ (r : Group). bit e r.fixed) k, bit-or e f (less w q), bit-less e w q, bit_le e f)

  taken_out_lem : (e : ℕ) → g - 1 < length t → bit e w ≡ 1 → bit e (group_at t h).fixed ≡ 1 → bit e (group_at taken_out g).possible ≡ 0
  unfolding literal_rule all_false false_in made_true possible_without group_at
  taken_out_lem e l b p =
      let q = (group_at t h).fixed in
      let f = (group_at t g).possible in
      let k = place-get_or (g - 1) (possible_without (bit_and w q)) t zero_group l in
      omega (arith, ap (λ (r : Group). bit e r.possible) k, bit-less e f (bit_and w q), bit-and e w q, bit_le e f)

  -- every one of them is in, or out, already
  put_same : ((e : ℕ) → bit e w ≤ bit e (group_at t h).possible + bit e (group_at t g).fixed) → put_in ≡ t
  unfolding literal_rule all_false false_in made_true fixed_with group_at
  put_same k = place_same (g - 1) (fixed_with v) t zero_group (group-eq (fixed_with v r) r (bit_ext (bit_or r.fixed v) r.fixed (λ e. omega (arith, k e, bit-or e r.fixed v, bit-less e w q, bit_le e w, bit_le e r.fixed))) refl refl refl)
    where
      r : Group
      r = get_or t (g - 1) zero_group

      q : ℕ
      q = (group_at t h).possible

      v : ℕ
      v = less w q

  taken-same : ((e : ℕ) → bit e w + bit e (group_at t h).fixed + bit e (group_at t g).possible ≤ 2) → taken_out ≡ t
  unfolding literal_rule all_false false_in made_true possible_without group_at
  taken-same k = place_same (g - 1) (possible_without v) t zero_group (group-eq (possible_without v r) r refl (bit_ext (less r.possible v) r.possible (λ e. omega (arith, k e, bit-less e r.possible v, bit-and e w q, bit_le e w, bit_le e q, bit_le e r.possible))) refl refl)
    where
      r : Group
      r = get_or t (g - 1) zero_group

      q : ℕ
      q = (group_at t h).fixed

      v : ℕ
      v = bit_and w q

  -- what it leaves as it is at every group k
  put-length : length put_in ≡ length t
  unfolding literal_rule made_true
  put-length = place-length (g - 1) (fixed_with (all_false t w (Pos h ∷ []))) t

  taken-length : length taken_out ≡ length t
  unfolding literal_rule made_true
  taken-length = place-length (g - 1) (possible_without (all_false t w (Neg h ∷ []))) t

  module _ (k : ℕ) where
    put_other : (k - 1 ≡ g - 1 → ⊥) → group_at put_in k ≡ group_at t k
    unfolding literal_rule made_true group_at
    put_other d = place_other (g - 1) (k - 1) (fixed_with (all_false t w (Pos h ∷ []))) t d

    taken-other : (k - 1 ≡ g - 1 → ⊥) → group_at taken_out k ≡ group_at t k
    unfolding literal_rule made_true group_at
    taken-other d = place_other (g - 1) (k - 1) (possible_without (all_false t w (Neg h ∷ []))) t d

    put_low : (group_at put_in k).low ≡ (group_at t k).low
    unfolding literal_rule made_true fixed_with group_at
    put_low = place_kept (λ r. r.low) (g - 1) (k - 1) (fixed_with (all_false t w (Pos h ∷ []))) t refl

    put-high : (group_at put_in k).high ≡ (group_at t k).high
    unfolding literal_rule made_true fixed_with group_at
    put-high = place_kept (λ r. r.high) (g - 1) (k - 1) (fixed_with (all_false t w (Pos h ∷ []))) t refl

    put-possible : (group_at put_in k).possible ≡ (group_at t k).possible
    unfolding literal_rule made_true fixed_with group_at
    put-possible = place_kept (λ r. r.possible) (g - 1) (k - 1) (fixed_with (all_false t w (Pos h ∷ []))) t refl

    put-fixed : (e : ℕ) → bit e w ≤ bit e (group_at t h).possible → bit e (group_at put_in k).fixed ≡ bit e (group_at t k).fixed
    unfolding literal_rule all_false false_in made_true fixed_with group_at
    put-fixed e l =
        let q = (group_at t h).possible in
        let f = (group_at t k).fixed in
        place_kept (λ r. bit e r.fixed) (g - 1) (k - 1) (fixed_with (less w q)) t (omega (arith, bit-or e f (less w q), bit-less e w q))

    taken-low : (group_at taken_out k).low ≡ (group_at t k).low
    unfolding literal_rule made_true possible_without group_at
    taken-low = place_kept (λ r. r.low) (g - 1) (k - 1) (possible_without (all_false t w (Neg h ∷ []))) t refl

    taken-high : (group_at taken_out k).high ≡ (group_at t k).high
    unfolding literal_rule made_true possible_without group_at
    taken-high = place_kept (λ r. r.high) (g - 1) (k - 1) (possible_without (all_false t w (Neg h ∷ []))) t refl

    taken-fixed : (group_at taken_out k).fixed ≡ (group_at t k).fixed
    unfolding literal_rule made_true possible_without group_at
    taken-fixed = place_kept (λ r. r.fixed) (g - 1) (k - 1) (possible_without (all_false t w (Neg h ∷ []))) t refl

    taken-possible : (e : ℕ) → bit e w + bit e (group_at t h).fixed ≤ 1 → bit e (group_at taken_out k).possible ≡ bit e (group_at t k).possible
    unfolding literal_rule all_false false_in made_true possible_without group_at
    taken-possible e l =
        let q = (group_at t h).fixed in
        let p = (group_at t k).possible in
        place_kept (λ r. bit e r.possible) (g - 1) (k - 1) (possible_without (bit_and w q)) t (omega (arith, bit-less e p (bit_and w q), bit-and e w q))

-- settled in one group (at an entrant e among those of w), then settled the opposite way in the other
pub record Opposite (e : ℕ) (f g u v : Group) : Type 0 where
  pub fixed-first : bit e f.fixed ≡ 1 → bit e v.possible ≡ 0
  pub barred-first : bit e f.possible ≡ 0 → bit e v.fixed ≡ 1
  pub fixed-second : bit e g.fixed ≡ 1 → bit e u.possible ≡ 0
  pub barred-second : bit e g.possible ≡ 0 → bit e u.fixed ≡ 1

-- the one left is one of those who are not settled alike
lone-bit : (e x : ℕ) → bit e (lone x) ≤ bit e x
unfolding lone
lone-bit e x = go (eqb (size x) 1)
  where
    go : (b : Bool) → bit e (cond b x 0) ≤ bit e x
    go true = omega arith
    go false = omega (arith, bit-zero e)

-- each of the four literals finds e as it would make him
record Already (e w : ℕ) (f g : Group) : Type 0 where
  out_first : bit e w + bit e g.fixed + bit e f.possible ≤ 2
  out-second : bit e w + bit e f.fixed + bit e g.possible ≤ 2
  in_first : bit e w ≤ bit e g.possible + bit e f.fixed
  in-second : bit e w ≤ bit e f.possible + bit e g.fixed

nobody : (e w : ℕ) (f g : Group) → bit e w ≡ 0 → Already e w f g
nobody e w f g z =
    let a = bit_le e f.fixed in
    let b = bit_le e g.fixed in
    let c = bit_le e f.possible in
    let d = bit_le e g.possible in
    record { out_first = omega arith; out-second = omega arith; in_first = omega arith; in-second = omega arith }

open_both : (e w : ℕ) (f g : Group) → bit e f.fixed ≡ 0 → bit e f.possible ≡ 1 → bit e g.fixed ≡ 0 → bit e g.possible ≡ 1 → Already e w f g
open_both e w f g a b c d =
    let l = bit_le e w in
    record { out_first = omega arith; out-second = omega arith; in_first = omega arith; in-second = omega arith }

already : (e w : ℕ) (f g : Group) → bit e w ≤ bit e (unlike f g) → SettledIn e f → SettledIn e g → Already e w f g
unfolding unlike
already e w f g u p q =
    let a = bit_le e f.fixed in
    let b = bit_le e g.fixed in
    let l = bit-less e (bit_or f.possible g.possible) (bit_and f.fixed g.fixed) in
    let o = bit-or e f.possible g.possible in
    let n = bit-and e f.fixed g.fixed in
    record { out_first = omega arith; out-second = omega arith; in_first = omega arith; in-second = omega arith }

one-group : (e w : ℕ) (f g : Group) → bit e w ≤ bit e (unlike f g) → f ≡ g → Already e w f g
unfolding unlike
one-group e w f g u same =
    let a = bit_le e w in
    let b = bit_le e f.fixed in
    let c = bit_le e f.possible in
    let p = ap (λ (r : Group). bit e r.fixed) same in
    let q = ap (λ (r : Group). bit e r.possible) same in
    let l = bit-less e (bit_or f.possible g.possible) (bit_and f.fixed g.fixed) in
    let o = bit-or e f.possible g.possible in
    let n = bit-and e f.fixed g.fixed in
    record { out_first = omega arith; out-second = omega arith; in_first = omega arith; in-second = omega arith }

-- four literals in order, among the entrants of w
abbrev pub difference_steps : ℕ → ℕ → ℕ → List (List Group → List Group)
difference_steps w f g =
    literal_rule w (Neg f) (Neg g ∷ []) ∷ literal_rule w (Neg g) (Neg f ∷ []) ∷ literal_rule w (Pos f) (Pos g ∷ []) ∷ literal_rule w (Pos g) (Pos f ∷ []) ∷ []

module _ (n : ℕ) (c : Constraint) (seven : c.code ≡ 7) where
  abbrev F : ℕ
  F = get_or c.groups 0 0

  abbrev G : ℕ
  G = get_or c.groups 1 0

  -- among the one entrant left
  pub rule-is : (t : List Group) → constraint_rule n c t ≡ run (difference_steps (lone (unlike_in t c)) (get_or c.groups 0 0) (get_or c.groups 1 0)) t
  unfolding constraint_rule clause_rule clause_rules
  rule-is t =
      let w : scope n t c ≡ lone (unlike_in t c) = unfold scope is_difference in difference in
      let cs : clauses_of c ≡ (Neg F ∷ Neg G ∷ []) ∷ (Pos F ∷ Pos G ∷ []) ∷ [] = unfold clauses_of rule_clauses of_group in clauses in
      let none : limit_rules c ≡ [] = unfold limit_rules limits_of in limits in
      rw (w, cs, none)
    where
      difference : cond (eqb c.code 7) (lone (unlike_in t c)) (full n) ≡ lone (unlike_in t c)
      difference = ap (λ (k : ℕ). cond (eqb k 7) (lone (unlike_in t c)) (full n)) seven

      clauses : map (map (of_group c.groups)) (rule_clauses c.code c.count) ≡ (Neg F ∷ Neg G ∷ []) ∷ (Pos F ∷ Pos G ∷ []) ∷ []
      clauses = unfold rule_clauses of_group in ap (λ (k : ℕ). map (map (of_group c.groups)) (rule_clauses k c.count)) seven

      limits : limits_of c.code (groups_of c) ≡ []
      limits = unfold limits_of in ap (λ (k : ℕ). limits_of k (groups_of c)) seven

  module _ (t : List Group) where
    abbrev w : ℕ
    w = lone (unlike_in t c)

    -- "it is then settled the opposite way in the other"
    pub acts : (e : ℕ) → F - 1 < length t → G - 1 < length t → bit e w ≡ 1
        → Opposite e (group_at t F) (group_at t G) (group_at (constraint_rule n c t) F) (group_at (constraint_rule n c t) G)
    acts e lf lg b =
        let W = lone (unlike_in t c) in
        let t1 = taken_out W F G t in
        let t2 = taken_out W G F t1 in
        let t3 = put_in W F G t2 in
        let t4 = put_in W G F t3 in
        let n1 : T (table_frame.within t1 t) = (literal_rule_lem W (Neg F) (Neg G ∷ [])).reduces t in
        let n2 : T (table_frame.within t2 t1) = (literal_rule_lem W (Neg G) (Neg F ∷ [])).reduces t1 in
        let n3 : T (table_frame.within t3 t2) = (literal_rule_lem W (Pos F) (Pos G ∷ [])).reduces t2 in
        let n4 : T (table_frame.within t4 t3) = (literal_rule_lem W (Pos G) (Pos F ∷ [])).reduces t3 in
        let n42 : T (table_frame.within t4 t2) = table_frame.w-trans t4 t3 t2 n4 n3 in
        let n41 : T (table_frame.within t4 t1) = table_frame.w-trans t4 t2 t1 n42 n2 in
        let n20 : T (table_frame.within t2 t) = table_frame.w-trans t2 t1 t n2 n1 in
        let n30 : T (table_frame.within t3 t) = table_frame.w-trans t3 t2 t n3 n20 in
        let l1 = pairwise-length group_within t1 t n1 in
        let l2 = pairwise-length group_within t2 t n20 in
        let l3 = pairwise-length group_within t3 t n30 in
        rw (rule-is t) (record {
          fixed-first = λ h. omega (
            arith,
            taken_out_lem W G F t1 e (omega arith) b (omega (arith, (group-narrow t1 t n1 F).fix.at e, bit_le e (group_at t1 F).fixed)),
            (group-narrow t4 t2 n42 G).pos.at e,
          );
          barred-first = λ h. omega (
            arith,
            put-in W G F t3 e (omega arith) b (omega (arith, (group-narrow t3 t n30 F).pos.at e)),
          );
          fixed-second = λ h. omega (arith, taken_out_lem W F G t e lf b h, (group-narrow t4 t1 n41 F).pos.at e);
          barred-second = λ h. omega (
            arith,
            put-in W F G t2 e (omega arith) b (omega (arith, (group-narrow t2 t n20 G).pos.at e)),
            (group-narrow t4 t3 n4 F).fix.at e,
            bit_le e (group_at t4 F).fixed,
          );
        })

    -- where each literal finds the one left as it would make him
    all-already : ((e : ℕ) → bit e w ≡ 1 → Already e w (group_at t F) (group_at t G)) → run (difference_steps w F G) t ≡ t
    all-already h =
        run-fixed table_frame (difference_steps w F G) t (
          taken-same w F G t (λ e. (at e).out_first),
          (taken-same w G F t (λ e. (at e).out-second), (put_same w F G t (λ e. (at e).in_first), (put_same w G F t (λ e. (at e).in-second), tt))),
        )
      where
        at : (e : ℕ) → Already e w (group_at t F) (group_at t G)
        at e = go (ℕ_discrete (bit e w) 1)
          where
            go : Dec (bit e w ≡ 1) → Already e w (group_at t F) (group_at t G)
            go (yes b) = h e b
            go (no b) = nobody e w (group_at t F) (group_at t G) (not-one (bit e w) (bit_le e w) b)

    -- "Settling acts only where ..": where there is no one left, or the one left is open in both groups, nothing changes
    pub idle : ((e : ℕ) → bit e w ≡ 1
        → ((bit e (group_at t F).fixed ≡ 0) × (bit e (group_at t F).possible ≡ 1)) × ((bit e (group_at t G).fixed ≡ 0) × (bit e (group_at t G).possible ≡ 1)))
        → constraint_rule n c t ≡ t
    idle h =
        rule-is t
        ∙ all-already (λ e b. open_both e w (group_at t F) (group_at t G) (h e b).0.0 (h e b).0.1 (h e b).1.0 (h e b).1.1)

    unlike-bit : (e : ℕ) → bit e w ≤ bit e (unlike (group_at t F) (group_at t G))
    unfolding unlike_in member_at
    unlike-bit e = lone-bit e (unlike_in t c)

    -- two groups at one place
    one_place : F - 1 ≡ G - 1 → NothingElse w F G t (constraint_rule n c t)
    unfolding group_at
    one_place p =
        let same : group_at t F ≡ group_at t G = ap (λ (i : ℕ). get_or t i zero_group) p in
        let still = rule-is t ∙ all-already (λ e b. one-group e w (group_at t F) (group_at t G) (unlike-bit e) same) in
        rw still (record {
          groups = λ k a b. refl;
          size = refl;
          low = λ k. refl;
          high = λ k. refl;
          fixed = λ e k b. refl;
          possible = λ e k b. refl;
          fixed-first = λ e b. refl;
          barred-first = λ e b. refl;
          fixed-second = λ e b. refl;
          barred-second = λ e b. refl;
          both = λ h. refl;
        })

    two-places : (F - 1 ≡ G - 1 → ⊥) → NothingElse w F G t (constraint_rule n c t)
    two-places d =
        let W = lone (unlike_in t c) in
        let t1 = taken_out W F G t in
        let t2 = taken_out W G F t1 in
        let t3 = put_in W F G t2 in
        let t4 = put_in W G F t3 in
        let n1 : T (table_frame.within t1 t) = (literal_rule_lem W (Neg F) (Neg G ∷ [])).reduces t in
        let n2 : T (table_frame.within t2 t1) = (literal_rule_lem W (Neg G) (Neg F ∷ [])).reduces t1 in
        let n3 : T (table_frame.within t3 t2) = (literal_rule_lem W (Pos F) (Pos G ∷ [])).reduces t2 in
        let n4 : T (table_frame.within t4 t3) = (literal_rule_lem W (Pos G) (Pos F ∷ [])).reduces t3 in
        let n42 : T (table_frame.within t4 t2) = table_frame.w-trans t4 t3 t2 n4 n3 in
        let n41 : T (table_frame.within t4 t1) = table_frame.w-trans t4 t2 t1 n42 n2 in
        let n40 : T (table_frame.within t4 t) = table_frame.w-trans t4 t1 t n41 n1 in
        let f2 : (k : ℕ) → (group_at t2 k).fixed ≡ (group_at t k).fixed = λ k. taken-fixed W G F t1 k ∙ taken-fixed W F G t k in
        let p4 : (k : ℕ) → (group_at t4 k).possible ≡ (group_at t2 k).possible = λ k. put-possible W G F t3 k ∙ put-possible W F G t2 k in
        rw (rule-is t) (record {
          groups = λ k a b. put_other W G F t3 k b ∙ put_other W F G t2 k a ∙ taken-other W G F t1 k b ∙ taken-other W F G t k a;
          size = put-length W G F t3 ∙ put-length W F G t2 ∙ taken-length W G F t1 ∙ taken-length W F G t;
          low = λ k. put_low W G F t3 k ∙ put_low W F G t2 k ∙ taken-low W G F t1 k ∙ taken-low W F G t k;
          high = λ k. put-high W G F t3 k ∙ put-high W F G t2 k ∙ taken-high W G F t1 k ∙ taken-high W F G t k;
          fixed = λ e k b. put-fixed W G F t3 k e (omega arith) ∙ put-fixed W F G t2 k e (omega arith) ∙ ap (bit e) (f2 k);
          possible = λ e k b. ap (bit e) (p4 k)
              ∙ taken-possible W G F t1 k e (omega (arith, bit_le e (group_at t1 F).fixed))
              ∙ taken-possible W F G t k e (omega (arith, bit_le e (group_at t G).fixed));
          fixed-first = λ e p. by-fixed e (group_at t F).fixed (group_at t4 F).fixed ((group-narrow t4 t n40 F).fix.at e) (λ z.
              let a : bit e (group_at t2 G).possible ≡ bit e (group_at t G).possible
              = taken-possible W G F t1 G e (omega (arith, ap (bit e) (taken-fixed W F G t F), bit_le e W))
              ∙ ap (λ (r : Group). bit e r.possible) (taken-other W F G t G (λ q. d (sym q))) in
              ap (λ (r : Group). bit e r.fixed) (put_other W G F t3 F d) ∙ put-fixed W F G t2 F e (omega (arith, bit_le e W)) ∙ ap (bit e) (f2 F));
          barred-first = λ e z. ap (bit e) (p4 F)
              ∙ ap (λ (r : Group). bit e r.possible) (taken-other W G F t1 F d)
              ∙ taken-possible W F G t F e (omega (arith, bit_le e W));
          fixed-second = λ e p. by-fixed e (group_at t G).fixed (group_at t4 G).fixed ((group-narrow t4 t n40 G).fix.at e) (λ z.
              let a : bit e (group_at t3 F).possible ≡ bit e (group_at t F).possible
              = ap (bit e) (put-possible W F G t2 F)
              ∙ ap (λ (r : Group). bit e r.possible) (taken-other W G F t1 F d)
              ∙ taken-possible W F G t F e (omega (arith, bit_le e W)) in
              put-fixed W G F t3 G e (omega (arith, bit_le e W))
              ∙ ap (λ (r : Group). bit e r.fixed) (put_other W F G t2 G (λ q. d (sym q))) ∙ ap (bit e) (f2 G));
          barred-second = λ e z. ap (bit e) (p4 G)
              ∙ taken-possible W G F t1 G e (omega (arith, ap (bit e) (taken-fixed W F G t F), bit_le e W))
              ∙ ap (λ (r : Group). bit e r.possible) (taken-other W F G t G (λ q. d (sym q)));
          both = λ h. all-already (λ e b. already e W (group_at t F) (group_at t G) (unlike-bit e) (h e b).0 (h e b).1);
        })
      where
        by-fixed : (e x y : ℕ) → bit e x ≤ bit e y → (bit e x ≡ 0 → bit e y ≡ bit e x) → bit e y ≡ bit e x
        by-fixed e x y l k = go (ℕ_discrete (bit e x) 1)
          where
            go : Dec (bit e x ≡ 1) → bit e y ≡ bit e x
            go (yes b) = omega (arith, bit_le e y)
            go (no b) = k (not-one (bit e x) (bit_le e x) b)

    -- and nothing else changes
    pub only : NothingElse w F G t (constraint_rule n c t)
    only = go (ℕ_discrete (F - 1) (G - 1))
      where
        go : Dec (F - 1 ≡ G - 1) → NothingElse w F G t (constraint_rule n c t)
        go (yes p) = one_place p
        go (no d) = two-places d
