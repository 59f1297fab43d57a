-- A whole reading: the calls, one after the other, leave exactly what the lines that are not refused say. Assumes nothing.
use mathlib.Core.Path.{◌≡◌, refl, sym, ap, ap₂, ◌∙◌, subst}
use mathlib.Core.Logic.{◌≢◌}
use Prim.Native.Nat.{ℕ, suc, ◌+◌, ◌-◌, ◌≤◌, ◌<◌}
use native.Mathlib.Omega.{arith}
use native.Mathlib.Decide.{ℕ_discrete}
use mathlib.Core.Bool.{Bool, true, false, cond, not, ◌&&◌, ◌||◌}
use mathlib.Core.List.{List, [], ◌∷◌, ◌++◌, append_assoc, append-nil}
use Rattle.std.specs.Prelude.{Option, None, Some}
use borrow.Author.Tests.{eq-eqb, ne_eqb, eqb-true, eqb-false, ltb-false}
use lib.Dec.{T, ltb, eqb}
use lib.ListN.{length, get_or, set, length-set, length-map}
use lib.Seq.{get_or-set_same, get_or-set_other, ext_get_or}
use Rattle.model.specs.declared.Literal.{Literal}
use Rattle.model.specs.declared.Literal.TheVariants.{Pos, Neg}
use Rattle.model.specs.declared.Model.{Model}
use Rattle.model.specs.declared.Reading.{Reading}
use Rattle.model.specs.declared.LineRead.{LineRead}
use Rattle.std.specs.List.{list_all, list_any}
use Rattle.model.specs.Lists.{range, stop}
use Rattle.model.specs.Cnf.{variable_count}
use Rattle.model.specs.Assignment.{Said, nothing_said, form_of, is_said, variable, value_for, with_value, literals_refusal, with_values, said_refusal, is_passed_over, call_refusal, is_taken, said_by, line_read, values_after}
use Rattle.model.specs.Close.{truth, literal_true, assignment_of}
use Rattle.model.specs.Demand.{names, offence, form_offence, refusal_after, say_line, say_lines, says, fresh_reading, is_fresh, reading_after, values_after_all}
use Rattle.model.proofs.Solver.{Named, form-named}
use Rattle.model.proofs.Lists.{T_true, T_false, true-T, and_left, and_right, and_both, or-false, every-getD, All, all_append, all-imp, any_append, every-range, range-every, get_or-map_in}
use Rattle.correctness.specs.Entries.{Holds, Matches, LineReads}

-- ---- what values hold, and what was said

said-value : (l : Literal) → is_said (value_for l) ≡ true
unfolding is_said
said-value (Pos v) = refl
said-value (Neg v) = refl

or-true : (a b : Bool) → b ≡ true → (a || (b || false)) ≡ true
or-true true b e = refl
or-true false b e = rw e

or_neither : (a b : Bool) → b ≡ false → (a || (b || false)) ≡ a
or_neither a b e = rw e (or-false a)

-- one literal more, which no earlier one names
module _ (v : ℕ) (said : List Literal) (values : List ℕ) (h : Holds v said values) (l : Literal) (named : Named l)
    (low : ltb v (variable l) ≡ false) (new : list_any (names l) said ≡ false) where
  in_reach : variable l - 1 < length values
  in_reach = omega (arith, ltb-false v (variable l) low, h.size, named)

  abbrev Right : List ℕ → Literal → Type 0
  Right vs k = (variable k ≤ v) × (1 ≤ variable k) × (get_or vs (variable k - 1) 0 ≡ value_for k)

  others : (ks : List Literal) → list_any (names l) ks ≡ false → All (Right values) ks → All (Right (with_value l values)) ks
  unfolding names with_value
  others [] e a = tt
  others (k ∷ ks) e a = go (eqb (variable k) (variable l)) refl e (λ f. others ks f a.1)
    where
      go : (b : Bool) → eqb (variable k) (variable l) ≡ b → (b || list_any (names l) ks) ≡ false
          → (list_any (names l) ks ≡ false → All (Right (with_value l values)) ks) → All (Right (with_value l values)) (k ∷ ks)
      go true q e ih = let n : ◌≡◌ {A = ℕ} 0 1 = cc in absurd (omega arith)
      go false q e ih =
          let apart : variable k - 1 ≢ variable l - 1 = λ z. eqb-false (variable k) (variable l) q (omega (arith, z, a.0.1, named)) in
          ((a.0.0, a.0.1, get_or-set_other values (variable l - 1) (variable k - 1) (value_for l) 0 apart ∙ a.0.2), ih e)

  pub holds-next : Holds v (said ++ (l ∷ [])) (with_value l values)
  unfolding with_value names
  holds-next = record {
    size = length-set values (variable l - 1) (value_for l) ∙ h.size;
    held =
        all_append (Right (with_value l values)) said (l ∷ []) (others said new h.held)
        ((ltb-false v (variable l) low, named, get_or-set_same values (variable l - 1) (value_for l) 0 in_reach), tt);
    only = λ i r. at i r (ℕ_discrete i (variable l - 1));
  }
    where
      at : (i : ℕ) → i < v → Dec (i ≡ variable l - 1)
          → is_said (get_or (set values (variable l - 1) (value_for l)) i 0) ≡ list_any (λ k. eqb (variable k) (suc i)) (said ++ (l ∷ []))
      at i r (yes e) =
          let x : variable l ≡ suc i = omega (arith, named) in
          rw (any_append (λ k. eqb (variable k) (suc i)) said (l ∷ []), e, get_or-set_same values (variable l - 1) (value_for l) 0 in_reach, said-value l)
          (sym (or-true (list_any (λ k. eqb (variable k) (suc (variable l - 1))) said) (eqb (variable l) (suc (variable l - 1))) (eq-eqb (variable l) (suc (variable l - 1)) (omega (arith, named)))))
      at i r (no f) =
          rw (any_append (λ k. eqb (variable k) (suc i)) said (l ∷ []), get_or-set_other values (variable l - 1) i (value_for l) 0 f)
          (h.only i r ∙ sym (or_neither (list_any (λ k. eqb (variable k) (suc i)) said) (eqb (variable l) (suc i)) (ne_eqb (variable l) (suc i) (λ z. f (omega (arith, z))))))

-- literals in order: the calls judge them as the lines alone do, and where none offends, the values hold them too
pub record Agrees (v : ℕ) (said ls : List Literal) (values : List ℕ) : Type 0 where
  pub same : literals_refusal ls values ≡ offence v said ls
  pub next : offence v said ls ≡ 0 → Holds v (said ++ ls) (with_values ls values)

test-same : (v : ℕ) (said : List Literal) (values : List ℕ) → Holds v said values → (l : Literal) → Named l → ltb v (variable l) ≡ false
    → is_said (get_or values (variable l - 1) 0) ≡ list_any (names l) said
unfolding names
test-same v said values h l n low =
    let x : suc (variable l - 1) ≡ variable l = omega (arith, n) in
    h.only (variable l - 1) (omega (arith, ltb-false v (variable l) low, n))
    ∙ ap (λ (y : ℕ). list_any (λ k. eqb (variable k) y) said) x

pub agrees : (v : ℕ) (ls said : List Literal) (values : List ℕ) → Holds v said values → All Named ls → Agrees v said ls values
agrees v [] said values h n = record { same = refl; next = λ e. subst (λ (x : List Literal). Holds v x values) (sym (append-nil said)) h }
agrees v (l ∷ ls) said values h n =
    first (ltb v (variable l)) refl (list_any (names l) said) refl (λ a b. agrees v ls (said ++ (l ∷ [])) (with_value l values) (holds-next v said values h l n.0 a b) n.1)
  where
    first : (a : Bool) → ltb v (variable l) ≡ a → (b : Bool) → list_any (names l) said ≡ b
        → (ltb v (variable l) ≡ false → list_any (names l) said ≡ false → Agrees v (said ++ (l ∷ [])) ls (with_value l values)) → Agrees v said (l ∷ ls) values
    first true p b q ih =
        let r : offence v said (l ∷ ls) ≡ 11 = rw p in
        record { same = rw (h.size, p); next = λ e. absurd (omega (arith, r, e)) }
    first false p true q ih =
        let r : offence v said (l ∷ ls) ≡ 12 = rw (p, q) in
        record { same = rw (h.size, p, test-same v said values h l n.0 p, q); next = λ e. absurd (omega (arith, r, e)) }
    first false p false q ih =
        let r = ih p q in
        let o : offence v said (l ∷ ls) ≡ offence v (said ++ (l ∷ [])) ls = rw (p, q) in
        record {
          same = rw (h.size, p, test-same v said values h l n.0 p, q) r.same;
          next = λ e. subst (λ (x : List Literal). Holds v x (with_values ls (with_value l values))) (append_assoc said (l ∷ []) ls) (r.next (sym o ∙ e));
        }

-- ---- a line

form-same : (v : ℕ) (said : List Literal) (values : List ℕ) → Holds v said values → (line : List ℕ)
    → said_refusal (form_of line) values ≡ form_offence v said (form_of line)
form-same v said values h line = go (form_of line) refl
  where
    go : (o : Option Said) → form_of line ≡ o → said_refusal o values ≡ form_offence v said o
    go None q = refl
    go (Some f) q = (agrees v f.literals said values h (form-named line f q)).same

module _ (v : ℕ) (s : Said) (r : Reading) (values : List ℕ) (h : Matches v s r values) (line : List ℕ) where
  pub refusal-same : call_refusal r line values ≡ refusal_after v s line
  unfolding call_refusal refusal_after
  refusal-same = rw (h.closed, form-same v s.literals values h.holds line)

  abbrev is_new : Bool
  is_new = not (is_passed_over line) && eqb (refusal_after v s line) 0

  taken-same : is_taken r line values ≡ is_new
  unfolding is_taken
  taken-same = rw refusal-same

  -- a line that is taken has a form, and its literals bring no offence
  formed : is_new ≡ true → (f : Said) × (form_of line ≡ Some f) × (offence v s.literals f.literals ≡ 0)
  unfolding refusal_after
  formed t = go (is_passed_over line) (not (eqb (get_or line 0 0) 118)) s.closed (form_of line) refl t
    where
      go : (a b c : Bool) (o : Option Said) → form_of line ≡ o
          → (not a && eqb (stop a 0 (stop b 10 (stop c 25 (form_offence v s.literals o)))) 0) ≡ true
          → (f : Said) × (form_of line ≡ Some f) × (offence v s.literals f.literals ≡ 0)
      go true b c o q e = let n : ◌≡◌ {A = ℕ} 0 1 = cc in absurd (omega arith)
      go false true c o q e = let n : ◌≡◌ {A = ℕ} 0 1 = cc in absurd (omega arith)
      go false false true o q e = let n : ◌≡◌ {A = ℕ} 0 1 = cc in absurd (omega arith)
      go false false false None q e = let n : ◌≡◌ {A = ℕ} 0 1 = cc in absurd (omega arith)
      go false false false (Some f) q e = (f, q, eqb-true (offence v s.literals f.literals) 0 e)

  pub line-next : Matches v (say_line v s line) (line_read r line values).reading (values_after r line values)
  unfolding say_line line_read values_after
  line-next = rw taken-same (go is_new refl)
    where
      go : (b : Bool) → is_new ≡ b
          → Matches v (cond b (record { literals = s.literals ++ (said_by (form_of line)).literals; closed = (said_by (form_of line)).closed }) s)
          (cond b (record { closed = (said_by (form_of line)).closed }) r) (cond b (with_values (said_by (form_of line)).literals values) values)
      go false e = h
      go true e =
          let f = formed e in
          record {
            closed = refl;
            holds =
                rw f.1 ((agrees v f.0.literals s.literals values h.holds (form-named line f.0 f.1)).next f.2);
          }

-- ---- all lines

pub reading-matches : (v : ℕ) (lines : List (List ℕ)) (s : Said) (r : Reading) (values : List ℕ) → Matches v s r values
    → Matches v (say_lines v s lines) (reading_after lines r values) (values_after_all lines r values)
unfolding reading_after values_after_all
reading-matches v [] s r values h = h
reading-matches v (line ∷ lines) s r values h =
    reading-matches v lines (say_line v s line) (line_read r line values).reading (values_after r line values) (line-next v s r values h line)

pub fresh-matches : (m : Model) (values : List ℕ) → T (is_fresh m values) → Matches (variable_count m) nothing_said fresh_reading values
unfolding is_fresh nothing_said fresh_reading
fresh-matches m values t =
    let v = variable_count m in
    let a = eqb (length values) v in
    let b = list_all (λ x. not (is_said x)) values in
    let n : length values ≡ v = eqb-true (length values) v (T_true a (and_left a b t)) in
    record {
      closed = refl;
      holds = record {
        size = n;
        held = tt;
        only = λ i h. T_false (is_said (get_or values i 0)) (every-getD (λ x. not (is_said x)) values 0 i (and_right a b t) (omega (arith, n)));
      };
    }

-- ---- what is said is what the values hold, as an assignment

any_with : {A : Type 0} (p q : A → Bool) (xs : List A) → All (λ x. T (q x)) xs → list_any p xs ≡ list_any (λ x. p x && q x) xs
any_with p q [] h = refl
any_with p q (x ∷ xs) h = ap₂ (λ (a b : Bool). a || b) (sym (and-true (p x) (q x) (T_true (q x) h.0))) (any_with p q xs h.1)
  where
    and-true : (a b : Bool) → b ≡ true → (a && b) ≡ a
    and-true true b e = e
    and-true false b e = refl

any_witness : {A : Type 0} (p : A → Bool) (P : A → Type 0) (xs : List A) → T (list_any p xs) → All P xs → (x : A) × T (p x) × P x
any_witness p P [] t h = absurd t
any_witness p P (x ∷ xs) t h = go (p x) refl t (λ u. any_witness p P xs u h.1)
  where
    go : (b : Bool) → p x ≡ b → T (b || list_any p xs) → (T (list_any p xs) → (x : _) × T (p x) × P x) → (x : _) × T (p x) × P x
    go true e t ih = (x, true-T (p x) e, h.0)
    go false e t ih = ih t

every-from : {A : Type 0} (p : A → Bool) (d : A) (xs : List A) → ((i : ℕ) → i < length xs → T (p (get_or xs i d))) → T (list_all p xs)
every-from p d [] h = tt
every-from p d (x ∷ xs) h = and_both (p x) (list_all p xs) (h 0 (omega arith)) (every-from p d xs (λ i l. h (suc i) (omega arith)))

pub says-size : (v : ℕ) (said : List Literal) (a : List Bool) → T (says v said a) → T (eqb (length a) v)
unfolding says
says-size v said a t = and_left (eqb (length a) v) (list_all (λ x. list_any (λ l. eqb (variable l) x && literal_true a l) said) (range 1 v)) t

module _ (v : ℕ) (said : List Literal) (values : List ℕ) (h : Holds v said values) where
  truth-at : (i : ℕ) → i < v → truth (assignment_of values) (suc i) ≡ eqb (get_or values i 0) 1
  unfolding assignment_of
  truth-at i l = get_or-map_in (λ b. eqb b 1) values i 0 false (omega (arith, h.size))

  right-true : (l : Literal) → (variable l ≤ v) × (1 ≤ variable l) × (get_or values (variable l - 1) 0 ≡ value_for l) → T (literal_true (assignment_of values) l)
  right-true (Pos x) r =
      let i : suc (x - 1) ≡ x = omega (arith, r.1) in
      subst (λ (y : ℕ). T (truth (assignment_of values) y)) i (rw (truth-at (x - 1) (omega (arith, r.0, r.1)), r.2) tt)
  right-true (Neg x) r =
      let i : suc (x - 1) ≡ x = omega (arith, r.1) in
      subst (λ (y : ℕ). T (not (truth (assignment_of values) y))) i (rw (truth-at (x - 1) (omega (arith, r.0, r.1)), r.2) tt)

  pub values-say : T (list_all is_said values) → T (says v said (assignment_of values))
  unfolding says assignment_of
  values-say t =
      let a = assignment_of values in
      and_both (eqb (length a) v) (list_all (λ x. list_any (λ l. eqb (variable l) x && literal_true a l) said) (range 1 v))
      (true-T (eqb (length a) v) (eq-eqb (length a) v (length-map values (λ b. eqb b 1) ∙ h.size)))
      (range-every (λ x. list_any (λ l. eqb (variable l) x && literal_true a l) said) 1 v (λ x l u. one x l u))
    where
      one : (x : ℕ) → 1 ≤ x → x < 1 + v → T (list_any (λ l. eqb (variable l) x && literal_true (assignment_of values) l) said)
      one x l u =
          let i : suc (x - 1) ≡ x = omega arith in
          let e : is_said (get_or values (x - 1) 0) ≡ true =
          T_true (is_said (get_or values (x - 1) 0)) (every-getD is_said values 0 (x - 1) t (omega (arith, h.size))) in
          true-T (list_any (λ l. eqb (variable l) x && literal_true (assignment_of values) l) said)
          (sym (any_with (λ l. eqb (variable l) x) (literal_true (assignment_of values)) said (all-imp _ (λ l. T (literal_true (assignment_of values) l)) right-true said h.held))
          ∙ ap (λ (y : ℕ). list_any (λ k. eqb (variable k) y) said) (sym i)
          ∙ sym (h.only (x - 1) (omega arith)) ∙ e)

  -- whatever assignment the literals say, the values hold it, all of them said
  module _ (a : List Bool) (t : T (says v said a)) where
    says-length : length a ≡ v
    says-length = eqb-true (length a) v (T_true (eqb (length a) v) (says-size v said a t))

    says-one : (i : ℕ) → i < v
        → (l : Literal) × T (eqb (variable l) (suc i) && literal_true a l) × ((variable l ≤ v) × (1 ≤ variable l) × (get_or values (variable l - 1) 0 ≡ value_for l))
    unfolding says
    says-one i l =
        any_witness (λ l. eqb (variable l) (suc i) && literal_true a l) (λ l. (variable l ≤ v) × (1 ≤ variable l) × (get_or values (variable l - 1) 0 ≡ value_for l)) said
        (every-range (λ x. list_any (λ l. eqb (variable l) x && literal_true a l) said) 1 v
        (and_right (eqb (length a) v) (list_all (λ x. list_any (λ l. eqb (variable l) x && literal_true a l) said) (range 1 v)) t) (suc i) (omega arith) (omega arith))
        h.held

    by-literal : (i : ℕ) (l : Literal) → variable l ≡ suc i → T (literal_true a l) → get_or values (variable l - 1) 0 ≡ value_for l
        → (get_or a i false ≡ eqb (get_or values i 0) 1) × T (is_said (get_or values i 0))
    unfolding is_said
    by-literal i (Pos x) e u w =
        let j : x - 1 ≡ i = omega (arith, e) in
        let k : get_or values i 0 ≡ 1 = rw j at w in
        (T_true (get_or a i false) (rw e at u) ∙ sym (rw k), rw k tt)
    by-literal i (Neg x) e u w =
        let j : x - 1 ≡ i = omega (arith, e) in
        let k : get_or values i 0 ≡ 2 = rw j at w in
        (T_false (get_or a i false) (rw e at u) ∙ sym (rw k), rw k tt)

    at_place : (i : ℕ) → i < v → (get_or a i false ≡ eqb (get_or values i 0) 1) × T (is_said (get_or values i 0))
    at_place i l =
        let w = says-one i l in
        let b = eqb (variable w.0) (suc i) in
        let c = literal_true a w.0 in
        by-literal i w.0 (eqb-true (variable w.0) (suc i) (T_true b (and_left b c w.1))) (and_right b c w.1) w.2.2

    pub said_all : T (list_all is_said values)
    said_all = every-from is_said 0 values (λ i l. (at_place i (omega (arith, h.size))).1)

    pub said-assignment : a ≡ assignment_of values
    unfolding assignment_of
    said-assignment =
        ext_get_or false a (assignment_of values) (says-length ∙ sym (length-map values (λ b. eqb b 1) ∙ h.size))
        (λ i l. (at_place i (omega (arith, says-length))).0 ∙ sym (truth-at i (omega (arith, says-length))))

-- ---- as `read_line` promises it

pub line_reads : (r : Reading) (line values : List ℕ) (a : LineRead) (after : List ℕ) → (a ≡ line_read r line values) × (after ≡ values_after r line values)
    → (a ≡ line_read r line values) × ((after ≡ values_after r line values) × LineReads r line values a after)
unfolding line_read
line_reads r line values a after e = (e.0, (e.1, record { judged = judged'; leaves = leaves' }))
  where
    judged' : (v : ℕ) (said : Said) → Matches v said r values → a.refusal ≡ refusal_after v said line
    judged' v said h = ap (λ (x : LineRead). x.refusal) e.0 ∙ refusal-same v said r values h line

    leaves' : (v : ℕ) (said : Said) → Matches v said r values → Matches v (say_line v said line) a.reading after
    leaves' v said h =
        subst (λ (x : LineRead). Matches v (say_line v said line) x.reading after) (sym e.0)
        (subst (λ (x : List ℕ). Matches v (say_line v said line) (line_read r line values).reading x) (sym e.1) (line-next v said r values h line))
