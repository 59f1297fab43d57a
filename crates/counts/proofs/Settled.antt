-- What a settled model gives the counts and the writers: groups at rest, constraints whose clauses fit. Assumes nothing.
use mathlib.Core.Path.{◌≡◌, refl, sym, ap, ◌∙◌, subst}
use mathlib.Core.List.{List, [], ◌∷◌, map}
use Prim.Native.Nat.{ℕ, suc, ◌+◌, ◌-◌, ◌≤◌, ◌<◌}
use native.Mathlib.Nat.{lt_of_lt_of_le, pow-le-pow_right}
use native.Mathlib.Omega.{arith}
use borrow.Author.Tests.{eq-eqb, ne_eqb}
use lib.Dec.{T}
use lib.ListN.{length, get_or, set, take, drop, length-take, take-append-drop}
use Rattle.model.specs.declared.Literal.TheVariants.{Pos}
use Rattle.model.specs.declared.Group.{Group}
use Rattle.model.specs.declared.Constraint.{Constraint}
use Rattle.model.specs.declared.Model.{Model}
use Rattle.std.specs.List.{list_all}
use Rattle.model.specs.Lists.{total, between}
use Rattle.model.specs.Limits.{limits}
use Rattle.model.specs.Clauses.{by_entrant, member_count, short_clauses, member_clauses, groups_of}
use Rattle.model.specs.Model.{table_of, constraints_of, code_in_range, constraint_in_range}
use Rattle.model.specs.Propagate.{unsettled_or, Settled}
use Rattle.model.specs.Assignment.{variable}
use Rattle.model.specs.Cnf.{open_count, first_variable, differing, group_clause_count, constraint_clauses, clause_count}
use Rattle.model.proofs.Refusals.{settled-rest, rest-settled}
use Rattle.model.proofs.Codes.{member-bound, clause-bound, members-below}
use Rattle.model.proofs.Lists.{All, all_get_d, all-imp, all-place, total-le, total-append}
use Rattle.propagation_laws.proofs.Ranges.{in_range_lem, constraint-code, groups-in, two-groups}
use Rattle.encoding_laws.proofs.Fixpoint.{SettledAmong, table-settled}
use Rattle.encoding_laws.proofs.Whole.{open_few}
use Rattle.numbering.specs.Numbering.{first_variables}
use Rattle.numbering.proofs.Arrays.{next-take}
use Rattle.terms.specs.declared.Member.{Member}
use Rattle.terms.specs.Terms.{first_of, no_member, member_at, member_of, difference_member, clause_of, MembersBelow}
use Rattle.terms.proofs.Constraints.{Saying, first-front, members_are, six-saying, seven-saying, seven-members}
use Rattle.counts.specs.Counts.{listed_clauses}

-- ---- the groups

-- fewer entrants are some of those that a sheet may have
more-entrants : (n : ℕ) (g : Group) → n ≤ limits.entrants → SettledAmong n g → SettledAmong limits.entrants g
more-entrants n g h s = record { group = s.group; small = lt_of_lt_of_le s.small (pow-le-pow_right (omega arith) h) }

pub among_all : (n : ℕ) (t : List Group) → n ≤ limits.entrants → All (SettledAmong n) t → All (SettledAmong limits.entrants) t
among_all n t h s = all-imp (SettledAmong n) (SettledAmong limits.entrants) (λ g s. more-entrants n g h s) t s

pub groups-settled : (m : Model) → Settled m → All (SettledAmong limits.entrants) (table_of m)
groups-settled m q = among_all m.n (table_of m) (in_range_lem m q.in_range_lem).entrants (table-settled m q)

-- ---- the constraints

module _ (s : ℕ) (c : Constraint) (t : T (constraint_in_range s c)) where
  code_in : T (code_in_range c.code c.count)
  code_in = constraint-code s c t

  pub few-clauses : length (member_clauses c.code c.count) ≤ limits.members
  few-clauses = clause-bound c.code c.count code_in

  groups-named : T (list_all (between 1 s) (take (member_count c.code c.count) c.groups))
  unfolding groups_of
  groups-named = groups-in s c t

-- clauses that speak of the first k members only
below_all : (k code count : ℕ) → All (All (λ l. variable l < k)) (member_clauses code count) → MembersBelow k code count
unfolding clause_of
below_all k code count h = record {
  below = λ j i _ l.
      all-place (λ l. variable l < k) (Pos 0) (clause_of code count j) (all_get_d (All (λ l. variable l < k)) [] tt (member_clauses code count) h j) i l;
}

members-enough : (c : Constraint) → T (by_entrant c.code) → MembersBelow (member_count c.code c.count) c.code c.count
members-enough c six = below_all (member_count c.code c.count) c.code c.count (members-below c.code c.count six)

pub seven_enough : (c : Constraint) → c.code ≡ 7 → MembersBelow 3 c.code c.count
seven_enough c seven = below_all 3 c.code c.count (subst (λ (k : ℕ). All (All (λ l. variable l < 3)) (member_clauses k c.count)) (sym seven) (four c.count))
  where
    four : (k : ℕ) → All (All (λ l. variable l < 3)) (member_clauses 7 k)
    four k = unfold member_clauses short_clauses in (
      (omega arith, (omega arith, (omega arith, tt))),
      ((omega arith, (omega arith, (omega arith, tt))), ((omega arith, (omega arith, (omega arith, tt))), ((omega arith, (omega arith, (omega arith, tt))), tt))),
    )

-- ---- the first variables are small

module _ (t : List Group) (st : All (SettledAmong limits.entrants) t) (many : length t ≤ limits.groups) where
  pub first-few : (g : ℕ) → first_variable t g ≤ suc limits.variables
  unfolding first_variable
  first-few g =
      let all = total-le open_count limits.entrants t
      (all-imp (SettledAmong limits.entrants) (λ r. open_count r ≤ limits.entrants) (open_few limits.entrants) t st) in
      let parts = ap (total open_count) (sym (take-append-drop (g - 1) t)) ∙ total-append open_count (take (g - 1) t) (drop (g - 1) t) in
      omega (arith, all, parts)

-- ---- a constraint's members, the first k of its list

module _ (s k : ℕ) (c : Constraint) (t : T (constraint_in_range s c)) (e : k ≡ member_count c.code c.count) where
  pub few-members : k ≤ limits.members
  few-members = let h = member-bound c.code c.count (constraint-code s c t) in omega arith

  pub first-named : T (list_all (between 1 s) (take k c.groups))
  first-named = subst (λ (j : ℕ). T (list_all (between 1 s) (take j c.groups))) (sym e) (groups-named s c t)

  pub first-enough : T (by_entrant c.code) → MembersBelow k c.code c.count
  first-enough six = subst (λ (j : ℕ). MembersBelow j c.code c.count) (sym e) (members-enough c six)

  -- as the array of members holds them
  pub members-first : (groups : List Group) (first : List ℕ) → first ≡ first_variables (take s groups) → s ≤ limits.groups → length c.groups ≡ limits.members
      → (ms : List Member) → ms ≡ first_of (member_at groups first) no_member limits.members k c.groups
      → take k ms ≡ map (member_of (take s groups)) (take k c.groups)
  members-first groups first f h wide ms q =
      ap (take k) q ∙ first-front (member_at groups first) no_member limits.members k c.groups (omega (arith, few-members))
      ∙ members_are groups first c.groups s k f first-named h

-- the members that the code makes say what the definitions say
module _ (s : ℕ) (few : s ≤ limits.groups) (groups : List Group) (st : All (SettledAmong limits.entrants) (take s groups)) (first : List ℕ)
    (f : first ≡ first_variables (take s groups)) (c : Constraint) (r : T (constraint_in_range s c)) (wide : length c.groups ≡ limits.members) (ms : List Member) where
  small : (g : ℕ) → first_variable (take s groups) g ≤ suc limits.variables
  small = first-few (take s groups) st (omega (arith, length-take s groups))

  pub six-says : T (by_entrant c.code) → (x k : ℕ) → k ≡ member_count c.code c.count → ms ≡ first_of (member_at groups first) no_member limits.members k c.groups
      → Saying x (take s groups) c (take k ms) k
  six-says six x k e q =
      subst (λ us. Saying x (take s groups) c us k) (sym (members-first s k c r e groups first f few wide ms q))
      (six-saying (take s groups) small c wide six x k (few-members s k c r e))

  pub seven-says : c.code ≡ 7 → (x : ℕ) → 1 ≤ x → x ≤ suc limits.variables → (o : ℕ) → o ≡ differing (take s groups) c
      → ms ≡ set (first_of (member_at groups first) no_member limits.members 2 c.groups) 2 (difference_member x o)
      → Saying x (take s groups) c (take 3 ms) 3
  seven-says seven x one most o e q =
      subst (λ us. Saying x (take s groups) c us 3)
      (sym (seven-members (take s groups) small c wide seven x one most first groups s refl f (two-groups s c r seven) few ms
      (q ∙ ap (λ (w : ℕ). set (first_of (member_at groups first) no_member limits.members 2 c.groups) 2 (difference_member x w)) e)))
      (seven-saying (take s groups) small c wide seven x one most)

-- one constraint more
module _ (s n : ℕ) (t : List Group) (cs : List Constraint) (j : ℕ) (d : Constraint) (h : j < length cs) where
  pub constraints-next : total (λ x. length (constraint_clauses n t 0 x)) (take (j + 1) cs)
      ≡ total (λ x. length (constraint_clauses n t 0 x)) (take j cs) + length (constraint_clauses n t 0 (get_or cs j d))
  constraints-next =
      ap (total (λ x. length (constraint_clauses n t 0 x))) (next-take cs j d h)
      ∙ total-append (λ x. length (constraint_clauses n t 0 x)) (take j cs) (get_or cs j d ∷ [])
      ∙ omega arith

-- ---- what the entry's parts ask of a settled model

module _ (m : Model) (q : Settled m) where
  pub groups-few : m.s ≤ limits.groups
  groups-few = (in_range_lem m q.in_range_lem).group_count

  pub entrants-few : m.n ≤ limits.entrants
  entrants-few = (in_range_lem m q.in_range_lem).entrants

  pub constraints-few : m.c ≤ limits.constraints
  constraints-few = (in_range_lem m q.in_range_lem).constraint_count

  pub table-groups : All (SettledAmong limits.entrants) (take m.s m.groups)
  unfolding table_of
  table-groups = groups-settled m q

  pub table-among : All (SettledAmong m.n) (take m.s m.groups)
  unfolding table_of
  table-among = table-settled m q

  pub constraints-good : T (list_all (constraint_in_range m.s) (take m.c m.constraints))
  unfolding constraints_of
  constraints-good = (in_range_lem m q.in_range_lem).constraints

  pub clauses-are : (a b : ℕ) → a ≡ total group_clause_count (take m.s m.groups)
      → b ≡ total (λ x. length (constraint_clauses m.n (take m.s m.groups) 0 x)) (take m.c m.constraints) → a + b ≡ clause_count m
  unfolding table_of constraints_of clause_count
  clauses-are a b p q = omega arith

-- ---- every model

module _ (m : Model) where
  pub unlisted : (unsettled_or m 0 ≡ 0 → ⊥) → 0 ≡ listed_clauses m
  unfolding listed_clauses
  unlisted h = rw (ne_eqb (unsettled_or m 0) 0 h)

  module _ (e : unsettled_or m 0 ≡ 0) where
    pub listed : listed_clauses m ≡ clause_count m
    unfolding listed_clauses
    listed = rw (eq-eqb (unsettled_or m 0) 0 e)

    pub settled-where : length m.groups ≡ limits.groups → length m.constraints ≡ limits.constraints → Settled m
    settled-where g c =
        let q = rest-settled m e in
        let i = in_range_lem m q.0 in
        record {
          in_range_lem = q.0;
          fixpoint = q.1;
          sized = record { groups = omega (arith, i.group_count); constraints = omega (arith, i.constraint_count) };
        }

  pub settled-listed : Settled m → listed_clauses m ≡ clause_count m
  settled-listed q = listed (settled-rest m q.in_range_lem q.fixpoint 0)
