-- The group rules in order, a constraint's clauses with its limits after them, and code 7 in the request's words. Assumes nothing.
use mathlib.Core.Path.{◌≡◌, sym, ap, ◌∙◌}
use Prim.Native.Nat.{ℕ, ◌+◌}
use native.Mathlib.Numerals.{add-one}
use native.Mathlib.Omega.{arith}
use mathlib.Core.List.{List, [], ◌∷◌, ◌++◌, map, map-append}
use borrow.Author.Tests.{eq-eqb}
use lib.ListN.{get_or}
use Rattle.model.specs.declared.Group.{Group}
use Rattle.model.specs.declared.Constraint.{Constraint}
use Rattle.model.specs.Lists.{range}
use Rattle.model.specs.Clauses.{is_difference, clauses_of}
use Rattle.model.specs.LimitRules.{limit_rules}
use Rattle.model.specs.Difference.{unlike_in, lone}
use Rattle.model.specs.Propagate.{group_rule_at, clause_rule, run, scope, constraint_rule}
use Rattle.model.proofs.Lists.{range_last}
use Rattle.propagation_laws.proofs.DifferenceRule.{acts, idle, only}
use Rattle.table.proofs.Rules.{run-append}
use Rattle.rules.specs.Among.{scope_among, rule_among}
use Rattle.rules.specs.Differing.{Differs, Differing}

-- ---- the group rules

pub group_more : (i : ℕ) (t u v : List Group) → u ≡ run (map group_rule_at (range 1 i)) t → v ≡ group_rule_at (i + 1) u → v ≡ run (map group_rule_at (range 1 (i + 1))) t
group_more i t u v e f =
    let n : 1 + i ≡ i + 1 = omega arith in
    f
    ∙ ap (group_rule_at (i + 1)) e
    ∙ sym (run-append (map group_rule_at (range 1 i)) (group_rule_at (i + 1) ∷ []) t)
    ∙ ap (λ rs. run rs t) (sym (ap (map group_rule_at) (ap (range 1) (add-one i) ∙ range_last 1 i ∙ ap (λ (g : ℕ). range 1 i ++ (g ∷ [])) n) ∙ map-append group_rule_at (range 1 i) ((i + 1) ∷ [])))

-- ---- the constraint rule

pub rule_made : (all w : ℕ) (c : Constraint) (t u v : List Group) → w ≡ scope_among all t c → u ≡ run (map (clause_rule w) (clauses_of c)) t → v ≡ run (limit_rules c) u
    → v ≡ rule_among all c t
unfolding rule_among
rule_made all w c t u v s a b =
    b
    ∙ ap (run (limit_rules c)) a
    ∙ sym (run-append (map (clause_rule w) (clauses_of c)) (limit_rules c) t)
    ∙ ap (λ (x : ℕ). run (map (clause_rule x) (clauses_of c) ++ limit_rules c) t) s

-- ---- code 7 in the request's words: its rule looks at no word of entrants

module _ (all : ℕ) (c : Constraint) (t : List Group) (seven : c.code ≡ 7) where
  among_none : rule_among all c t ≡ constraint_rule 0 c t
  unfolding rule_among scope_among constraint_rule scope is_difference
  among_none = rw (eq-eqb c.code 7 seven)

  differs : Differs (get_or c.groups 0 0) (get_or c.groups 1 0) (lone (unlike_in t c)) t (rule_among all c t)
  differs = rw among_none (record { acts = acts 0 c seven t; idle = idle 0 c seven t; only = only 0 c seven t })

pub made-differs : (all : ℕ) (c : Constraint) (t u : List Group) → u ≡ rule_among all c t → Differing c t u
made-differs all c t u m = λ seven. rw m (differs all c t seven)
