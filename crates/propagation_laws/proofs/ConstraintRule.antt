-- The constraint rule is a rule of the frame of tables that may still differ where a code 7 constraint asks it, whatever the clauses, so for every
-- code; and so are all rules of a model. Assumes nothing.
use mathlib.Core.Path.{◌≡◌, refl, ap, subst}
use Prim.Native.Nat.{ℕ, ◌-◌}
use native.Mathlib.Nat.{le_refl}
use native.Mathlib.Omega.{arith}
use mathlib.Core.List.{List, [], ◌∷◌, ◌++◌, map, Memᴰ}
use mathlib.Core.Bool.{Bool, true, false, ◌&&◌}
use lib.Dec.{T}
use Rattle.model.specs.declared.Literal.{Literal}
use Rattle.model.specs.declared.Literal.TheVariants.{Pos, Neg}
use Rattle.model.specs.declared.Group.{Group}
use Rattle.model.specs.declared.Constraint.{Constraint}
use Rattle.model.specs.declared.Model.{Model}
use Rattle.std.specs.List.{list_all}
use Rattle.model.specs.Lists.{pairwise, range}
use Rattle.model.specs.Words.{bit}
use Rattle.model.specs.Clauses.{clauses_of}
use Rattle.model.specs.Model.{group_at, table_of, constraints_of}
use Rattle.model.specs.LimitRules.{limit_rules}
use Rattle.model.specs.Difference.{may_differ}
use Rattle.model.specs.Propagate.{group_rule, false_in, all_false, fixed_with, possible_without, made_true, literal_rule, clause_rules, clause_rule, scope, constraint_rule, group_rule_at, rules, group_consistent, consistent, same_group, same_table}
use Rattle.model.specs.Demand.{group_within, within, unchanged, is_candidate}
use Rattle.model.proofs.Lists.{and_left, and_right, every-all, All, all_of, all_append, all_left, all_right, all_map, map-all, all-at, all-mem}
use Rattle.model.proofs.Words.{Sub, sub_refl, sub_trans, sub-or_l, sub-or-r, sub-or, sub-less, bit-less, bit-and}
use Rattle.propagation_laws.proofs.Fixpoint.{Frame, Rule, Unchanged, candidate, all-reduce, run-reduces, run-unchanged, run-fixed, run-rule, tested, tested-rule}
use Rattle.propagation_laws.proofs.Tables.{place-reduces, place-keeps, place-rule}
use Rattle.propagation_laws.proofs.LimitRules.{limit_rules_lem}
use Rattle.propagation_laws.proofs.Unlike.{scope-mono, differs-up}
use Rattle.propagation_laws.proofs.GroupRule.{Narrow, narrow, is_within, group_frame, group_rule_lem, table_frame, group-narrow}

-- ---- a literal

-- a narrower table has more literals settled false
module _ (u x : List Group) (w : T (table_frame.within u x)) where
  false-mono : (a b : ℕ) (l : Literal) → Sub a b → Sub (false_in x a l) (false_in u b l)
  unfolding false_in
  false-mono a b (Pos g) s = record {
    at = λ e. omega (arith, bit-less e a (group_at x g).possible, bit-less e b (group_at u g).possible, s.at e, (group-narrow u x w g).pos.at e);
  }
  false-mono a b (Neg g) s = record {
    at = λ e. omega (arith, bit-and e a (group_at x g).fixed, bit-and e b (group_at u g).fixed, s.at e, (group-narrow u x w g).fix.at e);
  }

  all-false-mono : (a b : ℕ) (ls : List Literal) → Sub a b → Sub (all_false x a ls) (all_false u b ls)
  unfolding all_false
  all-false-mono a b [] s = s
  all-false-mono a b (l ∷ ls) s = all-false-mono (false_in x a l) (false_in u b l) ls (false-mono a b l s)

fixed_reduces : (w : ℕ) (g : Group) → Narrow (fixed_with w g) g
unfolding fixed_with
fixed_reduces w g = record { fix = sub-or_l g.fixed w; pos = sub_refl g.possible; lo = le_refl g.low; hi = le_refl g.high }

possible_reduces : (w : ℕ) (g : Group) → Narrow (possible_without w g) g
unfolding possible_without
possible_reduces w g = record { fix = sub_refl g.fixed; pos = sub-less g.possible w; lo = le_refl g.low; hi = le_refl g.high }

module _ (m k : ℕ) (s : Sub k m) (u x : Group) (w : Narrow u x) where
  fixed-keeps : fixed_with m u ≡ u → Narrow u (fixed_with k x)
  unfolding fixed_with
  fixed-keeps e = record {
    fix = sub-or w.fix (sub_trans s (subst (λ (y : ℕ). Sub m y) (ap (λ (g : Group). g.fixed) e) (sub-or-r u.fixed m)));
    pos = w.pos;
    lo = w.lo;
    hi = w.hi;
  }

  possible-keeps : possible_without m u ≡ u → Narrow u (possible_without k x)
  unfolding possible_without
  possible-keeps e = record {
    fix = w.fix;
    pos = record {
      at = λ b. omega (
        arith,
        bit-less b x.possible k,
        bit-less b u.possible m,
        ap (λ (g : Group). bit b g.possible) e,
        s.at b,
        w.pos.at b,
      );
    };
    lo = w.lo;
    hi = w.hi;
  }

made_reduces : (l : Literal) (w : ℕ) (t : List Group) → T (table_frame.within (made_true l w t) t)
unfolding made_true
made_reduces (Pos g) w t = place-reduces group_frame (g - 1) (fixed_with w) (λ x. is_within (fixed_with w x) x (fixed_reduces w x)) t
made_reduces (Neg g) w t = place-reduces group_frame (g - 1) (possible_without w) (λ x. is_within (possible_without w x) x (possible_reduces w x)) t

made-keeps : (l : Literal) (m k : ℕ) → Sub k m → (u x : List Group) → T (table_frame.ok u) → made_true l m u ≡ u → T (table_frame.within u x)
    → T (table_frame.within u (made_true l k x))
unfolding made_true
made-keeps (Pos g) m k s =
    place-keeps group_frame (g - 1) (fixed_with m) (fixed_with k)
    (λ u x c e w. is_within u (fixed_with k x) (fixed-keeps m k s u x (narrow u x w) e))
made-keeps (Neg g) m k s =
    place-keeps group_frame (g - 1) (possible_without m) (possible_without k)
    (λ u x c e w. is_within u (possible_without k x) (possible-keeps m k s u x (narrow u x w) e))

pub literal_rule_lem : (a : ℕ) (l : Literal) (others : List Literal) → Rule table_frame (literal_rule a l others)
unfolding literal_rule
literal_rule_lem a l others = record {
  reduces = λ x. made_reduces l (all_false x a others) x;
  keeps = λ u x c e w. made-keeps l (all_false u a others) (all_false x a others) (all-false-mono u x w a a others (sub_refl a)) u x c e w;
}

-- ---- clauses and constraints

pub clause-rules : (a : ℕ) (before after : List Literal) → All (Rule table_frame) (clause_rules a before after)
unfolding clause_rules
clause-rules a before [] = tt
clause-rules a before (l ∷ after) = (literal_rule_lem a l (before ++ after), clause-rules a (before ++ (l ∷ [])) after)

pub clause_rule_lem : (a : ℕ) (c : List Literal) → Rule table_frame (clause_rule a c)
unfolding clause_rule
clause_rule_lem a c = run-rule table_frame (clause_rules a [] c) (clause-rules a [] c)

-- the clauses of a constraint and its limits
pub line-rules : (a : ℕ) (c : Constraint) → All (Rule table_frame) (map (clause_rule a) (clauses_of c) ++ limit_rules c)
line-rules a c =
    all_append (Rule table_frame) (map (clause_rule a) (clauses_of c)) (limit_rules c)
    (all_map (Rule table_frame) (clause_rule a) (clauses_of c) (all_of (λ l. Rule table_frame (clause_rule a l)) (clause_rule_lem a) (clauses_of c)))
    (limit_rules_lem c)

-- what the clauses leave as it is among some entrants, they leave among fewer
module _ (u : List Group) (ok : T (table_frame.ok u)) (a b : ℕ) (s : Sub b a) where
  fewer-literal : (l : Literal) (others : List Literal) → literal_rule a l others u ≡ u → literal_rule b l others u ≡ u
  unfolding literal_rule
  fewer-literal l others e =
      let v = all_false u b others in
      table_frame.w-antisym (made_true l v u) u (made_reduces l v u)
      (made-keeps l (all_false u a others) v (all-false-mono u u (table_frame.w-refl u) b a others s) u u ok e (table_frame.w-refl u))

  fewer-literals : (before after : List Literal) → Unchanged table_frame (clause_rules a before after) u → Unchanged table_frame (clause_rules b before after) u
  unfolding clause_rules
  fewer-literals before [] h = tt
  fewer-literals before (l ∷ after) h = (fewer-literal l (before ++ after) h.0, fewer-literals (before ++ (l ∷ [])) after h.1)

  fewer-clauses : (cs : List (List Literal)) → Unchanged table_frame (map (clause_rule a) cs) u → Unchanged table_frame (map (clause_rule b) cs) u
  unfolding clause_rule
  fewer-clauses [] h = tt
  fewer-clauses (ls ∷ cs) h = (
    run-fixed table_frame (clause_rules b [] ls) u
        (fewer-literals [] ls
        (run-unchanged table_frame (clause_rules a [] ls) (all-reduce table_frame (clause_rules a [] ls) (clause-rules a [] ls)) u h.0)),
    fewer-clauses cs h.1,
  )

-- ---- a constraint

-- the frame of tables among the constraints cs: no code 7 constraint has all entrants settled alike
abbrev pub constraint_frame : List Constraint → Frame (List Group)
constraint_frame cs = tested table_frame (λ t. list_all (may_differ t) cs) (differs-up cs)

pub constraint_rule_lem : (n : ℕ) (cs : List Constraint) (c : Constraint) → Memᴰ c cs → Rule (constraint_frame cs) (constraint_rule n c)
unfolding constraint_rule
constraint_rule_lem n cs c i = record {
  reduces = λ x. run-reduces table_frame (rs x) (all-reduce table_frame (rs x) (all x)) x;
  keeps = λ u x t e w.
      let ok = and_left (table_frame.ok u) (list_all (may_differ u) cs) t in
      let may = all-at (λ d. T (may_differ u d)) i (every-all (may_differ u) cs (and_right (table_frame.ok u) (list_all (may_differ u) cs) t)) in
      (run-rule table_frame (rs x) (all x)).keeps u x ok
      (let P : (List Group → List Group) → Type 0 = λ r. r u ≡ u in
      let own = run-unchanged table_frame (rs u) (all-reduce table_frame (rs u) (all u)) u e in
      run-fixed table_frame (rs x) u
      (all_append P (map (clause_rule (scope n x c)) (clauses_of c)) (limit_rules c)
      (fewer-clauses u ok (scope n u c) (scope n x c) (scope-mono u x w c n may) (clauses_of c)
      (all_left P (map (clause_rule (scope n u c)) (clauses_of c)) (limit_rules c) own))
      (all_right P (map (clause_rule (scope n u c)) (clauses_of c)) (limit_rules c) own)))
      w;
}
  where
    rs : List Group → List (List Group → List Group)
    rs x = map (clause_rule (scope n x c)) (clauses_of c) ++ limit_rules c

    all : (x : List Group) → All (Rule table_frame) (rs x)
    all x = line-rules (scope n x c) c

pub group_rule_at_lem : (g : ℕ) → Rule table_frame (group_rule_at g)
unfolding group_rule_at
group_rule_at_lem g = place-rule group_frame (g - 1) group_rule group_rule_lem

pub all-rules : (n s : ℕ) (cs : List Constraint) → All (Rule (constraint_frame cs)) (rules n s cs)
unfolding rules
all-rules n s cs =
    let R : (List Group → List Group) → Type 0 = Rule (constraint_frame cs) in
    all_append R (map group_rule_at (range 1 s)) (map (constraint_rule n) cs)
    (all_map R group_rule_at (range 1 s)
    (all_of (λ g. R (group_rule_at g)) (λ g. tested-rule table_frame (λ t. list_all (may_differ t) cs) (differs-up cs) (group_rule_at g) (group_rule_at_lem g)) (range 1 s)))
    (all_map R (constraint_rule n) cs (all-mem (λ c. R (constraint_rule n c)) cs (constraint_rule_lem n cs)))

-- ---- the rules of some of the constraints

pub fewer-rules : (n s : ℕ) (cs ds : List Constraint) → ((c : Constraint) → Memᴰ c ds → Memᴰ c cs) → (u : List Group)
    → Unchanged table_frame (rules n s cs) u → Unchanged table_frame (rules n s ds) u
unfolding rules
fewer-rules n s cs ds f u h =
    let P : (List Group → List Group) → Type 0 = λ r. r u ≡ u in
    let gs = map group_rule_at (range 1 s) in
    let some = map-all P (constraint_rule n) cs (all_right P gs (map (constraint_rule n) cs) h) in
    all_append P gs (map (constraint_rule n) ds) (all_left P gs (map (constraint_rule n) cs) h)
    (all_map P (constraint_rule n) ds (all-mem (λ c. constraint_rule n c u ≡ u) ds (λ c m. all-at (λ d. constraint_rule n d u ≡ u) (f c m) some)))

-- ---- a candidate of demand 3 is one of the frame

pub candidate-is : (m : Model) (t : List Group)
    → is_candidate m t ≡ candidate (constraint_frame (constraints_of m)) (rules m.n m.s (constraints_of m)) (table_of m) t
unfolding is_candidate consistent unchanged same_table within
candidate-is m t =
    table (list_all group_consistent t) (list_all (λ r. pairwise same_group (r t) t) (rules m.n m.s (constraints_of m))) (list_all (may_differ t) (constraints_of m))
    (pairwise group_within t (table_of m))
  where
    table : (a b d w : Bool) → (a && (b && d) && w) ≡ (a && d && b && w)
    table true true true w = refl
    table true true false w = refl
    table true false true w = refl
    table true false false w = refl
    table false b d w = refl
