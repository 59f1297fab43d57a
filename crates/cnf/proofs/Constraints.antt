-- A constraint's block over its members. Assumes nothing.
use mathlib.Core.Path.{◌≡◌, sym, ap, ◌∙◌}
use mathlib.Core.Bool.{true, false}
use mathlib.Core.List.{List, [], ◌∷◌, ◌++◌, map, append-nil}
use Prim.Native.Nat.{ℕ, ◌+◌, ◌≤◌}
use native.Mathlib.Omega.{arith}
use lib.Count.{ones}
use lib.Dec.{T}
use lib.ListN.{length, take, length-append}
use Rattle.model.specs.declared.Literal.TheVariants.{Pos}
use Rattle.model.specs.declared.Group.{Group}
use Rattle.model.specs.declared.Constraint.{Constraint}
use Rattle.std.specs.List.{flat_map}
use Rattle.model.specs.Lists.{range}
use Rattle.model.specs.Limits.{limits}
use Rattle.model.specs.Words.{size}
use Rattle.model.specs.Clauses.{by_entrant, member_clauses}
use Rattle.model.specs.Difference.{is_apart}
use Rattle.model.specs.Cnf.{differing, difference_count, clauses_at, last_clause, constraint_clauses}
use Rattle.model.specs.Text.{literal_text, clause_text}
use Rattle.model.proofs.Words.{size-ones}
use Rattle.model.proofs.Lists.{All, each_append, each-each, each_map, each-range_ext}
use Rattle.encoding_laws.proofs.Fixpoint.{SettledAmong}
use Rattle.encoding_laws.proofs.Differences.{six-last, apart-clauses, is_open, last-is}
use Rattle.text.specs.Put.{kept_text}
use Rattle.terms.specs.declared.Member.{Member}
use Rattle.terms.specs.Terms.{member_number, clause_terms, MembersBelow}
use Rattle.terms.proofs.Constraints.{Saying, clause-first, entrant-is}
use Rattle.cnf.specs.Parts.{entrant_text, constraint_text}

-- the numbers past the first k matter to no clause
pub entrant_first : (ns us : List ℕ) (k code count : ℕ) → MembersBelow k code count → take k ns ≡ us → entrant_text ns code count ≡ entrant_text us code count
unfolding entrant_text
entrant_first ns us k code count w e =
    each-range_ext (λ j. kept_text (clause_terms ns code count j)) (λ j. kept_text (clause_terms us code count j)) 0 (length (member_clauses code count))
    (λ j _ h. ap kept_text (clause-first ns us k code count w e j (omega arith)))

-- as many X as the code counts
pub counted : (t : List Group) (c : Constraint) (o : ℕ) → o ≡ differing t c → ones o ≡ difference_count t c
unfolding difference_count
counted t c o q = ap ones q ∙ sym (size-ones (differing t c))

-- the entrants' clauses of a constraint, but for a code 7 line's last
module _ (x : ℕ) (t : List Group) (c : Constraint) (ms : List Member) (k : ℕ) (says : Saying x t c ms k) (clear : is_apart t c ≡ false)
    (w : MembersBelow k c.code c.count) where
  pub entrants-text : (n : ℕ) → n ≤ limits.entrants → flat_map clause_text (flat_map (clauses_at x t c) (range 0 n)) ≡ constraint_text ms c.code c.count n
  unfolding constraint_text entrant_text kept_text
  entrants-text n h =
      each-each clause_text (clauses_at x t c) (range 0 n)
      ∙ each-range_ext (λ e. flat_map clause_text (clauses_at x t c e)) (λ e. entrant_text (map (member_number e) ms) c.code c.count) 0 n
      (λ e _ l. ap (flat_map clause_text) (entrant-is x t c ms k says clear w e (omega arith)) ∙ each-each clause_text _ (range 0 (length (member_clauses c.code c.count))))

module _ (x : ℕ) (t : List Group) (c : Constraint) (n : ℕ) (text : List ℕ) (e : flat_map clause_text (flat_map (clauses_at x t c) (range 0 n)) ≡ text) where
  whole-text : flat_map clause_text (constraint_clauses n t x c) ≡ text ++ flat_map clause_text (last_clause n x t c)
  unfolding constraint_clauses
  whole-text = each_append clause_text (flat_map (clauses_at x t c) (range 0 n)) (last_clause n x t c) ∙ ap (λ (l : List ℕ). l ++ flat_map clause_text (last_clause n x t c)) e

  pub six-text : T (by_entrant c.code) → flat_map clause_text (constraint_clauses n t x c) ≡ text
  six-text six = whole-text ∙ ap (λ l. text ++ flat_map clause_text l) (six-last t c six n x) ∙ append-nil text

  -- code 7: the last clause is of all X
  pub seven-text : c.code ≡ 7 → All (SettledAmong n) t → is_apart t c ≡ false → (o : ℕ) → o ≡ differing t c
      → flat_map clause_text (constraint_clauses n t x c) ≡ text ++ clause_text (map Pos (range x (ones o)))
  unfolding difference_count
  seven-text seven s clear o q =
      whole-text
      ∙ ap (λ l. text ++ flat_map clause_text l) (last-is n x t s c (is_open t c seven clear))
      ∙ ap (λ (l : List ℕ). text ++ l) (append-nil (clause_text (map Pos (range x (size (differing t c))))))
      ∙ ap (λ (k : ℕ). text ++ clause_text (map Pos (range x k))) (sym (counted t c o q))

  pub seven-size : c.code ≡ 7 → All (SettledAmong n) t → is_apart t c ≡ false → (o : ℕ) → o ≡ differing t c
      → length (flat_map clause_text (constraint_clauses n t x c)) ≡ length text + length (clause_text (map Pos (range x (ones o))))
  seven-size seven s clear o q = ap length (seven-text seven s clear o q) ∙ length-append text (clause_text (map Pos (range x (ones o))))

pub apart-text : (x : ℕ) (t : List Group) (c : Constraint) (n : ℕ) → c.code ≡ 7 → is_apart t c ≡ true → flat_map clause_text (constraint_clauses n t x c) ≡ []
apart-text x t c n seven e = ap (flat_map clause_text) (apart-clauses t c seven e n x)

-- the clause of the variables from x on, literal by literal
pub rising-text : (x k : ℕ) → clause_text (map Pos (range x k)) ≡ flat_map (λ v. literal_text (Pos v)) (range x k) ++ (48 ∷ 10 ∷ [])
unfolding clause_text
rising-text x k = ap (λ (l : List ℕ). l ++ (48 ∷ 10 ∷ [])) (each_map literal_text Pos (range x k))

pub rising-length : (x k : ℕ) → length (clause_text (map Pos (range x k))) ≡ length (flat_map (λ v. literal_text (Pos v)) (range x k)) + 2
rising-length x k = ap length (rising-text x k) ∙ length-append (flat_map (λ v. literal_text (Pos v)) (range x k)) (48 ∷ 10 ∷ [])
