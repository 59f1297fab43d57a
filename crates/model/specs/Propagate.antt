-- Propagation, which document 01 calls settling: the group rule, the constraint rule, a pass, refusals 21 and 22.
use Rattle.std.specs.Prelude.{ℕ, zero, suc, ◌+◌, ◌-◌, ◌*◌, min, max, Bool, true, false, cond, not, ◌&&◌, List, [], ◌∷◌, ◌++◌, map, T, leb, eqb}
use Rattle.std.specs.Int.Bits.{bit_and, bit_or}
use Rattle.model.specs.declared.Literal.{Literal}
use Rattle.model.specs.declared.Literal.TheVariants.{Pos, Neg}
use Rattle.model.specs.declared.Group.{Group}
use Rattle.model.specs.declared.Constraint.{Constraint}
use Rattle.model.specs.declared.Model.{Model}
use Rattle.model.specs.declared.Propagated.{Propagated}
use Rattle.std.specs.List.{list_all}
use Rattle.model.specs.Lists.{pairwise, range, on_place, stop}
use Rattle.model.specs.Words.{full, less, size, inside}
use Rattle.model.specs.Clauses.{is_difference, clauses_of}
use Rattle.model.specs.Model.{group_at, table_of, constraints_of, with_table, Sized, in_range}
use Rattle.model.specs.LimitRules.{limit_rules}
use Rattle.model.specs.Difference.{lone, unlike_in, may_differ}

-- ---- "Group rule"

-- "low becomes the larger of low and the number of entrants fixed; high the smaller of high and the number possible."
unfoldable pub limited : Group → Group
limited g = record {
  fixed = g.fixed;
  possible = g.possible;
  low = max g.low (size g.fixed);
  high = min g.high (size g.possible);
}

-- "Then, if the number fixed equals high, those not fixed cease to be possible."
unfoldable pub cut : Group → Group
cut g = record {
  fixed = g.fixed;
  possible = cond (eqb (size g.fixed) g.high) (bit_and g.possible g.fixed) g.possible;
  low = g.low;
  high = g.high;
}

-- "Then, if the number possible equals low, all possible are fixed."
unfoldable pub filled : Group → Group
filled g = record {
  fixed = cond (eqb (size g.possible) g.low) (bit_or g.fixed g.possible) g.fixed;
  possible = g.possible;
  low = g.low;
  high = g.high;
}

unfoldable pub group_rule : Group → Group
group_rule g = filled (cut (limited g))

-- ---- "Line rule: clauses in order, literals in order, every entrant: where all other literals are settled false, this one is made true."

-- "F is settled false where the entrant is not possible in F; -F where it is fixed in F": such entrants of w
unfoldable pub false_in : List Group → ℕ → Literal → ℕ
false_in t w (Pos g) = less w (group_at t g).possible
false_in t w (Neg g) = bit_and w (group_at t g).fixed

-- the entrants of w for whom each of some literals is settled false
unfoldable pub all_false : List Group → ℕ → List Literal → ℕ
all_false t w [] = w
all_false t w (l ∷ ls) = all_false t (false_in t w l) ls

-- "A literal made true: F fixes the entrant, -F takes it out of the possible ones": for the entrants of w
unfoldable pub fixed_with : ℕ → Group → Group
fixed_with w g = record { fixed = bit_or g.fixed w; possible = g.possible; low = g.low; high = g.high }

unfoldable pub possible_without : ℕ → Group → Group
possible_without w g = record { fixed = g.fixed; possible = less g.possible w; low = g.low; high = g.high }

unfoldable pub made_true : Literal → ℕ → List Group → List Group
made_true (Pos g) w t = on_place (g - 1) (fixed_with w) t
made_true (Neg g) w t = on_place (g - 1) (possible_without w) t

-- among the entrants of w
unfoldable pub literal_rule : ℕ → Literal → List Literal → List Group → List Group
literal_rule w l others t = let v = all_false t w others in made_true l v t

-- rules one after the other, "always on the newest table"
abbrev pub run : {X : Type 0} → List (X → X) → X → X
run [] x = x
run (r ∷ rs) x = run rs (r x)

-- a clause's literals in order, after those that stand before them
unfoldable pub clause_rules : ℕ → List Literal → List Literal → List (List Group → List Group)
clause_rules w before [] = []
clause_rules w before (l ∷ after) = literal_rule w l (before ++ after) ∷ clause_rules w (before ++ (l ∷ [])) after

unfoldable pub clause_rule : ℕ → List Literal → List Group → List Group
clause_rule w c = run (clause_rules w [] c)

-- the entrants for whom a constraint's clauses are gone through: everyone; by request 6 "only where all entrants but one are settled alike", that one
unfoldable pub scope : ℕ → List Group → Constraint → ℕ
scope n t c = cond (is_difference c) (lone (unlike_in t c)) (full n)

-- the clauses, and by request 1 the limits after them
unfoldable pub constraint_rule : ℕ → Constraint → List Group → List Group
constraint_rule n c t = run (map (clause_rule (scope n t c)) (clauses_of c) ++ limit_rules c) t

-- ---- "A pass applies the group rule to groups 1..s, then the line rule to each line in order"

unfoldable pub group_rule_at : ℕ → List Group → List Group
group_rule_at g = on_place (g - 1) group_rule

unfoldable pub rules : ℕ → ℕ → List Constraint → List (List Group → List Group)
rules n s cs = map group_rule_at (range 1 s) ++ map (constraint_rule n) cs

unfoldable pub pass : Model → List Group → List Group
pass m = run (rules m.n m.s (constraints_of m))

-- the opposite of "some entrant is fixed but not possible, or low exceeds high"
unfoldable pub group_consistent : Group → Bool
group_consistent g = inside g.fixed g.possible && leb g.low g.high

unfoldable pub consistent : List Group → Bool
consistent t = list_all group_consistent t

-- what a table must pass after each pass: by request 6 "All settled alike is 21" too
unfoldable pub tenable : List Constraint → List Group → Bool
tenable cs t = consistent t && list_all (may_differ t) cs

-- "If the pass changed nothing": sets and limits alike
unfoldable pub same_group : Group → Group → Bool
same_group a b = eqb a.fixed b.fixed && eqb a.possible b.possible && eqb a.low b.low && eqb a.high b.high

unfoldable pub same_table : List Group → List Group → Bool
same_table a b = pairwise same_group a b

-- ---- passes until one changes nothing, over any kind of table

-- refusal 21; or the passes made, "the last included", and the table
pub data Outcome (X : Type 0) : Type 0 where
  contradiction : Outcome X
  fixpoint : ℕ → X → Outcome X

-- "After each pass": is the table y tenable, is it unchanged; k passes were made before
abbrev pub after_pass : {X : Type 0} → Bool → Bool → ℕ → X → Outcome X → Outcome X
after_pass false same k y rest = contradiction
after_pass true true k y rest = fixpoint (suc k) y
after_pass true false k y rest = rest

-- at most `fuel` passes
unfoldable pub iterate : {X : Type 0} → (X → Bool) → (X → X → Bool) → (X → X) → ℕ → ℕ → X → Outcome X
iterate ok same next zero k x = contradiction
iterate ok same next (suc fuel) k x =
    let y = next x in
    let rest = iterate ok same next fuel (suc k) y in
    after_pass (ok y) (same y x) k y rest

-- "it is at most 2·s·n + 1"
unfoldable pub outcome : Model → Outcome (List Group)
outcome m = iterate (tenable (constraints_of m)) same_table (pass m) (2 * m.s * m.n + 1) 0 (table_of m)

-- "a refused settling returns the model it got and 0 passes"
unfoldable pub refused_propagation : ℕ → Model → Propagated
refused_propagation r m = record { refusal = r; passes = 0; model = m }

abbrev pub propagated_as : Model → Outcome (List Group) → Propagated
propagated_as m contradiction = refused_propagation 21 m
propagated_as m (fixpoint k t) = record { refusal = 0; passes = k; model = with_table m t }

-- "settle 20, 21"
unfoldable pub propagated : Model → Propagated
propagated m = let done = propagated_as m (outcome m) in cond (in_range m) done (refused_propagation 20 m)

-- "22 a pass would change the table or end in 21": refusal 22 is the opposite of this
unfoldable pub is_fixpoint : Model → Bool
is_fixpoint m = let t = pass m (table_of m) in tenable (constraints_of m) t && same_table t (table_of m)

-- 20, then 22: what each entry that asks for a settled model judges first, and the refusals after them
unfoldable pub unsettled_or : Model → ℕ → ℕ
unsettled_or m rest = stop (not (in_range m)) 20 (stop (not (is_fixpoint m)) 22 rest)

-- a model that neither refuses, with its lists whole
pub record Settled (m : Model) : Type 0 where
  pub in_range_lem : T (in_range m)
  pub fixpoint : T (is_fixpoint m)
  pub sized : Sized m
