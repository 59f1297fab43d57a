-- Accepted sheets: their models are in range and have whole lists, and an order of an accepted sheet is accepted, with the same constraints in another
-- order. Assumes nothing.
use mathlib.Core.Path.{◌≡◌, refl, sym, ap, ap₂, ◌∙◌, subst}
use Prim.Native.Nat.{ℕ, zero, suc, ◌+◌, ◌-◌, ◌/◌, ◌≤◌, ◌<◌}
use native.Mathlib.Nat.{add-zero, le_trans}
use native.Mathlib.Numerals.{add-one}
use native.Mathlib.Omega.{arith}
use mathlib.Core.Bool.{Bool, true, false, cond, not, ◌&&◌}
use mathlib.Core.List.Permᴰ
use mathlib.Core.List.{List, [], ◌∷◌, ◌++◌, map, Permᴰ}
use borrow.Author.Tests.{ltb-false, leb-true, leb-false, eqb-true, eqb-false, le-leb, lt-leb, le-ltb, ne_eqb}
use lib.Dec.{T, leb, ltb, eqb, eqb-suc-zero, leb→le, le→leb}
use lib.ListN.{length, get_or, take, drop, set, replicate, length-append, length-map, length-replicate, take-append-drop}
use lib.Seq.{sets, length-sets}
use Rattle.model.specs.declared.Group.{Group}
use Rattle.model.specs.declared.Constraint.{Constraint}
use Rattle.model.specs.declared.Model.{Model}
use Rattle.model.specs.declared.SheetRead.{SheetRead}
use Rattle.std.specs.List.{list_all}
use Rattle.model.specs.Lists.{between, distinct, range, total, stop}
use Rattle.model.specs.Limits.{limits, groups_for}
use Rattle.model.specs.Clauses.{groups_of}
use Rattle.model.specs.Model.{zero_group, zero_constraint, zero_model, table_of, constraints_of, Sized, members_sized, group_in_range, code_in_range, constraint_in_range, in_range}
use Rattle.model.specs.Sheet.{lines_of, value_at, form_refusal, head_refusal, with_head, mark_at, group_refusal, group_from, with_group, group_count, first_group, count_from, constraint_from, constraint_refusal, with_constraint, line_refusal, with_line, refused_sheet, after_last, read_lines, read_sheet}
use Rattle.model.specs.Propagate.{propagated}
use Rattle.model.specs.Demand.{Accepted, OrderOf}
use Rattle.model.proofs.Lists.{T_true, true-T, and_right, and_both, between_le, total-append, range_length, All, all-perm, all_map, all-every, perm_total, perm-length, take-sets}
use Rattle.model.proofs.Words.{where_lt, where_sub}
use Rattle.model.proofs.Width.{groups_for_lem}
use Rattle.propagation_laws.proofs.Ranges.{is-group-range, constraint-code, is_in_range}
use Rattle.model.proofs.Codes.{member-bound}
use Rattle.propagation_laws.proofs.Propagation.{Reordered, Propagation, propagation}
use Rattle.propagation_laws.proofs.Lines.{ends, ends_last, text-lines, text-ends, text-length}

-- ---- a refusal of 0: every test passed

passed : (b : Bool) (r rest : ℕ) → stop (not b) (suc r) rest ≡ 0 → T b × (rest ≡ 0)
passed true r rest e = (tt, e)
passed false r rest e = absurd (omega arith)

passed-form : (f rest : ℕ) → stop (not (eqb f 0)) f rest ≡ 0 → (f ≡ 0) × (rest ≡ 0)
passed-form f rest e = go (eqb f 0) refl e
  where
    go : (b : Bool) → eqb f 0 ≡ b → stop (not b) f rest ≡ 0 → (f ≡ 0) × (rest ≡ 0)
    go true q e = (eqb-true f 0 q, e)
    go false q e = absurd (eqb-false f 0 q e)

-- ---- what each kind of line tells

record Head (l : List ℕ) : Type 0 where
  entrants : T (between 1 limits.entrants (value_at l 1))
  groups : T (between 1 (groups_for (value_at l 1)) (value_at l 2))
  constraints : T (leb (value_at l 3) limits.constraints)

head_good : (l : List ℕ) → head_refusal l ≡ 0 → Head l
unfolding head_refusal
head_good l e =
    let a = passed (eqb (value_at l 0) 1) 4 _ e in
    let b = passed (eqb (length l / 4) 4) 5 _ a.1 in
    let c = passed (between 1 limits.entrants (value_at l 1)) 6 _ b.1 in
    let d = passed (between 1 (groups_for (value_at l 1)) (value_at l 2)) 6 _ c.1 in
    let f = passed (leb (value_at l 3) limits.constraints) 6 _ d.1 in
    record { entrants = c.0; groups = d.0; constraints = f.0 }

group-good : (n g : ℕ) (l : List ℕ) → group_refusal n g l ≡ 0 → T (group_in_range n (group_from n l))
unfolding group_refusal group_from
group-good n g l e =
    let a = passed (eqb (value_at l 0) 2) 4 _ e in
    let b = passed (eqb (length l / 4) (4 + n)) 5 _ a.1 in
    let c = passed (leb (value_at l 2) (value_at l 3)) 6 _ b.1 in
    let d = passed (leb (value_at l 3) n) 6 _ c.1 in
    is-group-range n (group_from n l) (record {
      fits = where_sub (λ i. eqb (mark_at l i) 2) (λ i. not (eqb (mark_at l i) 0)) n (λ i. two (mark_at l i));
      small = where_lt (λ i. not (eqb (mark_at l i) 0)) n;
      order = leb→le (value_at l 2) (value_at l 3) c.0;
      top = leb→le (value_at l 3) n d.0;
    })
  where
    two : (x : ℕ) → T (eqb x 2) → T (not (eqb x 0))
    two x t = rw (eqb-true x 2 (T_true (eqb x 2) t)) tt

constraint_good : (s : ℕ) (l : List ℕ) → constraint_refusal s l ≡ 0 → T (constraint_in_range s (constraint_from l))
unfolding constraint_refusal constraint_in_range constraint_from
constraint_good s l e =
    let c = constraint_from l in
    let a = passed (eqb (value_at l 0) 3) 4 _ e in
    let b = passed (code_in_range c.code c.count) 5 _ a.1 in
    let d = passed (eqb (length l / 4) (first_group l + group_count l)) 5 _ b.1 in
    let f = passed (list_all (between 1 s) (groups_of c)) 6 _ d.1 in
    let g = passed (distinct (groups_of c)) 8 _ f.1 in
    and_both (code_in_range c.code c.count && list_all (between 1 s) (groups_of c)) (distinct (groups_of c))
    (and_both (code_in_range c.code c.count) (list_all (between 1 s) (groups_of c)) b.0 f.0) g.0

-- its list has room for as many groups as a constraint may have
unfoldable whole : Constraint → Bool
whole c = leb limits.members (length c.groups)

constraint_whole : (l : List ℕ) → T (code_in_range (value_at l 1) (count_from l)) → T (whole (constraint_from l))
unfolding whole constraint_from group_count
constraint_whole l t =
    let f : ℕ → ℕ = λ i. value_at l (first_group l + i) in
    let k = group_count l in
    let h : k ≤ limits.members = member-bound (value_at l 1) (count_from l) t in
    le→leb limits.members (length (map f (range 0 k) ++ replicate (limits.members - k) 0))
    (omega (
      arith,
      length-append (map f (range 0 k)) (replicate (limits.members - k) 0),
      length-map (range 0 k) f,
      range_length 0 k,
      length-replicate {A = ℕ} (limits.members - k) 0,
    ))

-- ---- an accepted line, and what it does to the model

abbrev accepted : Model → SheetRead
accepted m = record { refusal = 0; line = 0; model = m }

abbrev pub in_groups : Model → List Group → Model
in_groups q gs = record { n = q.n; s = q.s; c = q.c; groups = gs; constraints = q.constraints }

abbrev in_constraints : Model → List Constraint → Model
in_constraints q cs = record { n = q.n; s = q.s; c = q.c; groups = q.groups; constraints = cs }

model_of_lem : {p q : Model} → accepted p ≡ accepted q → p ≡ q
model_of_lem e = ap (λ (r : SheetRead). r.model) e

accept_cons : (l : List ℕ) (ls : List (List ℕ)) (done : ℕ) (m p : Model) → read_lines (l ∷ ls) done m ≡ accepted p
    → (line_refusal m.n m.s m.c done l ≡ 0) × (read_lines ls (done + 1) (with_line done m l) ≡ accepted p)
unfolding refused_sheet
accept_cons l ls done m p e =
    go (line_refusal m.n m.s m.c done l) (read_lines ls (done + 1) (with_line done m l)) (eqb (line_refusal m.n m.s m.c done l) 0) refl e
  where
    go : (r : ℕ) (rest : SheetRead) (b : Bool) → eqb r 0 ≡ b → cond b rest (refused_sheet r (done + 1)) ≡ accepted p → (r ≡ 0) × (rest ≡ accepted p)
    go r rest true q e = (eqb-true r 0 q, e)
    go r rest false q e = absurd (eqb-false r 0 q (ap (λ (a : SheetRead). a.refusal) e))

pub read-cons : (l : List ℕ) (ls : List (List ℕ)) (done : ℕ) (m : Model) → line_refusal m.n m.s m.c done l ≡ 0
    → read_lines (l ∷ ls) done m ≡ read_lines ls (done + 1) (with_line done m l)
read-cons l ls done m e = rw e

-- after the last line
accept_nil : (done : ℕ) (m p : Model) → after_last done m ≡ accepted p → (m.s + m.c < done) × (m ≡ p)
unfolding after_last refused_sheet
accept_nil done m p e = go (leb done (m.s + m.c)) refl e
  where
    go : (b : Bool) → leb done (m.s + m.c) ≡ b → cond b (refused_sheet 5 (done + 1)) (accepted m) ≡ accepted p → (m.s + m.c < done) × (m ≡ p)
    go true q e = absurd (let z : ◌≡◌ {A = ℕ} 5 0 = ap (λ (a : SheetRead). a.refusal) e in omega arith)
    go false q e = (leb-false done (m.s + m.c) q, model_of_lem e)

-- ---- group lines

module _ (j : ℕ) (q : Model) (l : List ℕ) (h : suc j ≤ q.s) where
  group-line : line_refusal q.n q.s q.c (suc j) l ≡ 0 → group_refusal q.n (suc j) l ≡ 0
  unfolding line_refusal
  group-line e = rw (eqb-suc-zero j, le-leb (suc j) q.s h) at (passed-form (form_refusal l) _ e).1

  pub group-step : with_line (suc j) q l ≡ in_groups q (set q.groups j (group_from q.n l))
  unfolding with_line with_group
  group-step =
      rw (eqb-suc-zero j, le-leb (suc j) q.s h)
      (ap (λ (i : ℕ). in_groups q (set q.groups i (group_from q.n l))) {x = suc j - 1} {y = j} (omega arith))

-- k group lines from number j + 1 on
record GroupPart (k j : ℕ) (ls : List (List ℕ)) (q : Model) : Type 0 where
  enough : k ≤ length ls
  good : All (λ l. T (group_in_range q.n (group_from q.n l))) (take k ls)
  reads : (x : List (List ℕ))
      → read_lines (take k ls ++ x) (suc j) q ≡ read_lines x (suc (j + k)) (in_groups q (sets q.groups j (map (group_from q.n) (take k ls))))

group-part : (k j : ℕ) (ls : List (List ℕ)) (q p : Model) → j + k ≡ q.s → read_lines ls (suc j) q ≡ accepted p → GroupPart k j ls q
group-part zero j ls q p e h = record {
  enough = omega arith;
  good = tt;
  reads = λ x. ap (λ (i : ℕ). read_lines x (suc i) q) (sym (add-zero j));
}
group-part (suc k) j [] q p e h = absurd (let d = (accept_nil (suc j) q p h).0 in omega arith)
group-part (suc k) j (l ∷ ls) q p e h =
    let a = accept_cons l ls (suc j) q p h in
    let s = group-step j q l (omega arith) in
    let q' = in_groups q (set q.groups j (group_from q.n l)) in
    let ih = group-part k (suc j) ls q' p (omega arith) (rw (add-one (suc j), s) at a.1) in
    record {
      enough = omega (arith, ih.enough);
      good = (group-good q.n (suc j) l (group-line j q l (omega arith) a.0), ih.good);
      reads = λ x.
          read-cons l (take k ls ++ x) (suc j) q a.0
          ∙ ap₂ (λ (i : ℕ) (z : Model). read_lines (take k ls ++ x) i z) (add-one (suc j)) s
          ∙ ih.reads x
          ∙ ap (λ (i : ℕ). read_lines x (suc i) (in_groups q (sets q'.groups (suc j) (map (group_from q.n) (take k ls)))))
          {x = suc j + k} {y = j + suc k} (omega arith);
    }

-- ---- constraint lines

abbrev pub Good : ℕ → List ℕ → Type 0
Good s l = (form_refusal l ≡ 0) × (constraint_refusal s l ≡ 0)

module _ (i : ℕ) (q : Model) (l : List ℕ) where
  past : leb (suc (q.s + i)) q.s ≡ false
  past = lt-leb (suc (q.s + i)) q.s (omega arith)

  constraint-line : line_refusal q.n q.s q.c (suc (q.s + i)) l ≡ 0 → (suc i ≤ q.c) × Good q.s l
  unfolding line_refusal
  constraint-line e =
      let a = passed-form (form_refusal l) _ e in
      let b = go (leb (suc (q.s + i)) (q.s + q.c)) refl (rw (eqb-suc-zero (q.s + i), past) at a.1) in
      (b.0, (a.0, b.1))
    where
      go : (b : Bool) → leb (suc (q.s + i)) (q.s + q.c) ≡ b → cond b (constraint_refusal q.s l) 5 ≡ 0
          → (suc i ≤ q.c) × (constraint_refusal q.s l ≡ 0)
      go true h e = (let k = leb-true (suc (q.s + i)) (q.s + q.c) h in omega arith, e)
      go false h e = absurd (omega arith)

  constraint-accepts : suc i ≤ q.c → Good q.s l → line_refusal q.n q.s q.c (suc (q.s + i)) l ≡ 0
  unfolding line_refusal
  constraint-accepts h g = rw (g.0, eqb-suc-zero (q.s + i), past, le-leb (suc (q.s + i)) (q.s + q.c) (omega arith)) g.1

  constraint-step : with_line (suc (q.s + i)) q l ≡ in_constraints q (set q.constraints i (constraint_from l))
  unfolding with_line with_constraint
  constraint-step =
      rw (eqb-suc-zero (q.s + i), past)
      (ap (λ (j : ℕ). in_constraints q (set q.constraints j (constraint_from l))) {x = suc (q.s + i) - q.s - 1} {y = i} (omega arith))

  constraint-next : (ls : List (List ℕ)) → read_lines ls (suc (q.s + i) + 1) (with_line (suc (q.s + i)) q l)
      ≡ read_lines ls (suc (q.s + suc i)) (in_constraints q (set q.constraints i (constraint_from l)))
  constraint-next ls = ap₂ (λ (j : ℕ) (z : Model). read_lines ls j z) (omega arith) constraint-step

-- all the lines from constraint i + 1 on
record ConstraintPart (i : ℕ) (ls : List (List ℕ)) (q p : Model) : Type 0 where
  good : All (Good q.s) ls
  count : i + length ls ≡ q.c
  model : p ≡ in_constraints q (sets q.constraints i (map constraint_from ls))

constraint_part : (ls : List (List ℕ)) (i : ℕ) (q p : Model) → i ≤ q.c → read_lines ls (suc (q.s + i)) q ≡ accepted p → ConstraintPart i ls q p
constraint_part [] i q p h e =
    let a = accept_nil (suc (q.s + i)) q p e in
    record { good = tt; count = omega (arith, a.0); model = sym a.1 }
constraint_part (l ∷ ls) i q p h e =
    let a = accept_cons l ls (suc (q.s + i)) q p e in
    let b = constraint-line i q l a.0 in
    let q' = in_constraints q (set q.constraints i (constraint_from l)) in
    let ih = constraint_part ls (suc i) q' p b.0 (sym (constraint-next i q l ls) ∙ a.1) in
    record { good = (b.1, ih.good); count = omega (arith, ih.count); model = ih.model }

pub constraint_back : (ls : List (List ℕ)) (i : ℕ) (q : Model) → All (Good q.s) ls → i + length ls ≡ q.c
    → read_lines ls (suc (q.s + i)) q ≡ accepted (in_constraints q (sets q.constraints i (map constraint_from ls)))
constraint_back [] i q g h = unfold after_last in rw (lt-leb (suc (q.s + i)) (q.s + q.c) (omega arith))
constraint_back (l ∷ ls) i q g h =
    read-cons l ls (suc (q.s + i)) q (constraint-accepts i q l (omega arith) g.0)
    ∙ constraint-next i q l ls
    ∙ constraint_back ls (suc i) (in_constraints q (set q.constraints i (constraint_from l))) g.1 (omega arith)

-- ---- the lines of an accepted sheet

record Parts (ls : List (List ℕ)) (m : Model) : Type 0 where
  -- the model after the head and the group lines
  start : Model
  entrants : T (between 1 limits.entrants start.n)
  groups : T (between 1 (groups_for start.n) start.s)
  constraints : T (leb start.c limits.constraints)
  table : T (list_all (group_in_range start.n) (table_of start))
  wide : length start.groups ≡ limits.groups
  empty : start.constraints ≡ zero_model.constraints
  reads : (x : List (List ℕ)) → read_lines (take (suc start.s) ls ++ x) 0 zero_model ≡ read_lines x (suc (start.s + 0)) start
  rest : ConstraintPart 0 (drop (suc start.s) ls) start m

zero-wide : length zero_model.groups ≡ limits.groups
unfolding zero_model
zero-wide = length-replicate limits.groups zero_group

parts : (ls : List (List ℕ)) (m : Model) → read_lines ls 0 zero_model ≡ accepted m → Parts ls m
unfolding with_line with_head line_refusal table_of
parts [] m e = absurd (let d = (accept_nil 0 zero_model m e).0 in omega arith)
parts (l ∷ ls) m e =
    let a = accept_cons l ls 0 zero_model m e in
    let h = head_good l (passed-form (form_refusal l) _ a.0).1 in
    let q0 = with_head l zero_model in
    let s = q0.s in
    let g = group-part s 0 ls q0 m (omega arith) a.1 in
    let vs = map (group_from q0.n) (take s ls) in
    let q = in_groups q0 (sets q0.groups 0 vs) in
    let top : s ≤ limits.groups = le_trans (leb→le s (groups_for q0.n) (and_right (leb 1 s) (leb s (groups_for q0.n)) h.groups)) (groups_for_lem q0.n) in
    let long : length vs ≡ s = length-map (take s ls) (group_from q0.n) ∙ lib.Seq.length-take-le s ls g.enough in
    let reads : (x : List (List ℕ)) → read_lines (take (suc s) (l ∷ ls) ++ x) 0 zero_model ≡ read_lines x (suc (s + 0)) q =
    λ x. read-cons l (take s ls ++ x) 0 zero_model a.0 ∙ g.reads x
    ∙ ap (λ (i : ℕ). read_lines x (suc i) q) {x = 0 + s} {y = s + 0} (omega arith) in
    record {
      start = q;
      entrants = h.entrants;
      groups = h.groups;
      constraints = h.constraints;
      table = subst (λ (t : List Group). T (list_all (group_in_range q0.n) t)) (sym (take-sets vs q0.groups s long (omega (arith, zero-wide))))
          (all-every (group_in_range q0.n) vs (all_map (λ y. T (group_in_range q0.n y)) (group_from q0.n) (take s ls) g.good));
      wide = length-sets q0.groups 0 vs ∙ zero-wide;
      empty = refl;
      reads = reads;
      rest = constraint_part (drop s ls) 0 q m (omega arith)
          (sym (reads (drop s ls)) ∙ ap (λ (x : List (List ℕ)). read_lines (l ∷ x) 0 zero_model) (take-append-drop s ls) ∙ e);
    }

-- ---- the model of an accepted sheet

-- in range, and its lists are as long as the arrays
pub record Accurate (m : Model) : Type 0 where
  pub in_range_lem : T (in_range m)
  pub sized : Sized m
  pub members : T (members_sized m)

good-constraints : (s : ℕ) (ls : List (List ℕ)) → All (Good s) ls → T (list_all (constraint_in_range s) (map constraint_from ls))
good-constraints s [] g = tt
good-constraints s (l ∷ ls) g =
    and_both (constraint_in_range s (constraint_from l)) (list_all (constraint_in_range s) (map constraint_from ls)) (constraint_good s l g.0.1)
    (good-constraints s ls g.1)

whole-constraints : (s : ℕ) (ls : List (List ℕ)) → All (Good s) ls → T (list_all whole (map constraint_from ls))
unfolding constraint_from
whole-constraints s [] g = tt
whole-constraints s (l ∷ ls) g =
    and_both (whole (constraint_from l)) (list_all whole (map constraint_from ls))
    (constraint_whole l (constraint-code s (constraint_from l) (constraint_good s l g.0.1))) (whole-constraints s ls g.1)

zero-long : length zero_model.constraints ≡ limits.constraints
unfolding zero_model
zero-long = length-replicate limits.constraints zero_constraint

module _ (ls : List (List ℕ)) (m : Model) (p : Parts ls m) where
  abbrev q : Model
  q = p.start

  -- the lines of the constraints of the model
  module _ (xs : List (List ℕ)) (good : All (Good q.s) xs) (count : length xs ≡ q.c) where
    abbrev made : Model
    made = in_constraints q (sets q.constraints 0 (map constraint_from xs))

    room : q.c ≤ length q.constraints
    room = omega (arith, leb→le q.c limits.constraints p.constraints, ap length p.empty, zero-long)

    made-constraints : constraints_of made ≡ map constraint_from xs
    unfolding constraints_of
    made-constraints = take-sets (map constraint_from xs) q.constraints q.c (length-map xs constraint_from ∙ count) room

    made-accurate : Accurate made
    unfolding whole
    made-accurate =
        let n = between_le 1 limits.entrants q.n p.entrants in
        let s = between_le 1 (groups_for q.n) q.s p.groups in
        record {
          in_range_lem = is_in_range made (record {
            some-entrant = n.0;
            entrants = n.1;
            some-group = s.0;
            group_count = le_trans s.1 (groups_for_lem q.n);
            group_limit = s.1;
            constraint_count = leb→le q.c limits.constraints p.constraints;
            groups = unfold table_of in p.table;
            constraints = rw made-constraints (good-constraints q.s xs good);
          });
          sized = record { groups = omega (arith, s.1, groups_for_lem q.n, p.wide); constraints = omega (arith, room, length-sets q.constraints 0 (map constraint_from xs)) };
          members = rw made-constraints (whole-constraints q.s xs good);
        }

-- ---- the bytes of an accepted sheet

pub record Bytes (b : List ℕ) (m : Model) : Type 0 where
  pub short : length b ≤ limits.sheet
  pub some : 0 < length b
  pub ended : T (ends b)
  pub reads : read_lines (lines_of b) 0 zero_model ≡ accepted m

last : (b : List ℕ) → 0 < length b → eqb (get_or b (length b - 1) 0) 10 ≡ ends b
last [] h = absurd (omega arith)
last (x ∷ xs) h = ends_last x xs

not-refused : (r : ℕ) (m : Model) → refused_sheet (suc r) 0 ≡ accepted m → ⊥
unfolding refused_sheet
not-refused r m e = let z : suc r ≡ 0 = ap (λ (a : SheetRead). a.refusal) e in omega arith

pub bytes : (b : List ℕ) (m : Model) → Accepted b m → Bytes b m
unfolding read_sheet
bytes b m e = go (ltb limits.sheet (length b)) refl (eqb (length b) 0) refl (eqb (get_or b (length b - 1) 0) 10) refl e
  where
    go : (t : Bool) → ltb limits.sheet (length b) ≡ t → (u : Bool) → eqb (length b) 0 ≡ u → (v : Bool) → eqb (get_or b (length b - 1) 0) 10 ≡ v
        → cond t (refused_sheet 1 0) (cond u (refused_sheet 2 0) (cond v (read_lines (lines_of b) 0 zero_model) (refused_sheet 2 0))) ≡ accepted m
        → Bytes b m
    go true et u eu v ev e = absurd (not-refused 0 m e)
    go false et true eu v ev e = absurd (not-refused 1 m e)
    go false et false eu false ev e = absurd (not-refused 1 m e)
    go false et false eu true ev e =
        let h : 0 < length b = omega (arith, eqb-false (length b) 0 eu) in
        record { short = ltb-false limits.sheet (length b) et; some = h; ended = true-T (ends b) (sym (last b h) ∙ ev); reads = e }

pub from_bytes : (b : List ℕ) (m : Model) → Bytes b m → Accepted b m
unfolding read_sheet
from_bytes b m h =
    rw (
      le-ltb limits.sheet (length b) h.short,
      ne_eqb (length b) 0 (λ e. omega (arith, h.some)),
      last b h.some ∙ T_true (ends b) h.ended,
    ) h.reads

-- ---- an accepted sheet's answer has line 0

same_or : (x : Bool) (p q : SheetRead) → (p.refusal ≡ 0 → p.line ≡ 0) → (q.refusal ≡ 0 → q.line ≡ 0) → (cond x p q).refusal ≡ 0 → (cond x p q).line ≡ 0
same_or true p q f g = f
same_or false p q f g = g

refused-line : (r k : ℕ) → (r ≡ 0 → ⊥) → (refused_sheet r k).refusal ≡ 0 → (refused_sheet r k).line ≡ 0
unfolding refused_sheet
refused-line r k n e = absurd (n e)

lines-line : (ls : List (List ℕ)) (done : ℕ) (m : Model) → (read_lines ls done m).refusal ≡ 0 → (read_lines ls done m).line ≡ 0
unfolding after_last
lines-line [] done m =
    same_or (leb done (m.s + m.c)) (refused_sheet 5 (done + 1)) (record { refusal = 0; line = 0; model = m }) (refused-line 5 (done + 1) (λ z. omega arith)) (λ e. refl)
lines-line (l ∷ ls) done m = go (eqb (line_refusal m.n m.s m.c done l) 0) refl (lines-line ls (done + 1) (with_line done m l))
  where
    go : (x : Bool) → eqb (line_refusal m.n m.s m.c done l) 0 ≡ x → ((read_lines ls (done + 1) (with_line done m l)).refusal ≡ 0 → (read_lines ls (done + 1) (with_line done m l)).line ≡ 0)
        → (cond x (read_lines ls (done + 1) (with_line done m l)) (refused_sheet (line_refusal m.n m.s m.c done l) (done + 1))).refusal ≡ 0
        → (cond x (read_lines ls (done + 1) (with_line done m l)) (refused_sheet (line_refusal m.n m.s m.c done l) (done + 1))).line ≡ 0
    go true e f = f
    go false e f = refused-line (line_refusal m.n m.s m.c done l) (done + 1) (eqb-false (line_refusal m.n m.s m.c done l) 0 e)

sheet_line_lem : (b : List ℕ) → (read_sheet b).refusal ≡ 0 → (read_sheet b).line ≡ 0
unfolding read_sheet
sheet_line_lem b =
    let first = refused-line 1 0 (λ z. omega arith) in
    let second = refused-line 2 0 (λ z. omega arith) in
    same_or (ltb limits.sheet (length b)) _ _ first
    (same_or (eqb (length b) 0) _ _ second (same_or (eqb (get_or b (length b - 1) 0) 10) _ _ (lines-line (lines_of b) 0 zero_model) second))

pub accepted_of : (b : List ℕ) (r : SheetRead) → r ≡ read_sheet b → r.refusal ≡ 0 → Accepted b r.model
accepted_of b r e z =
    let l : r.line ≡ 0 = ap (λ (x : SheetRead). x.line) e ∙ sheet_line_lem b (sym (ap (λ (x : SheetRead). x.refusal) e) ∙ z) in
    sym e ∙ ap₂ (λ (x y : ℕ). record { refusal = x; line = y; model = r.model }) z l

-- ---- an accepted sheet is an order of itself

pub itself : (b : List ℕ) (m : Model) → Accepted b m → OrderOf b b m
itself b m h = record { accepted = h; whole = sym (text-lines b (bytes b m h).ended); kept = refl; permuted = Permᴰ.refl _ }

-- ---- the theorems

pub accurate : (b : List ℕ) (m : Model) → Accepted b m → Accurate m
accurate b m e =
    let p = parts (lines_of b) m (bytes b m e).reads in
    subst Accurate (sym p.rest.model)
    (made-accurate (lines_of b) m p (drop (suc p.start.s) (lines_of b)) p.rest.good (omega (arith, p.rest.count)))

-- an order of an accepted sheet is accepted, and its model is the same but for the order of the constraints
pub order-accepted : (b o : List ℕ) (m : Model) → OrderOf b o m → (p : Model) × (Accepted o p × Reordered m p)
order-accepted b o m h = (
  made (lines_of b) m p ys good count,
  (
    from_bytes o (made (lines_of b) m p ys good count) (record {
      short = omega (arith, byte.short, same_length);
      some = omega (arith, byte.some, same_length);
      ended = subst (λ (t : List ℕ). T (ends t)) (sym h.whole) (text-ends (lines_of o));
      reads = ap (λ (ls : List (List ℕ)). read_lines ls 0 zero_model) lines-o ∙ p.reads ys ∙ constraint_back ys 0 p.start good (omega (arith, count));
    }),
    record {
      entrants = ap (λ (z : Model). z.n) p.rest.model;
      count = ap (λ (z : Model). z.s) p.rest.model;
      constraints = ap (λ (z : Model). z.c) p.rest.model;
      groups = ap (λ (z : Model). z.groups) p.rest.model;
      order = subst (λ (cs : List Constraint). Permᴰ cs (constraints_of (made (lines_of b) m p ys good count)))
          (sym (ap constraints_of p.rest.model ∙ made-constraints (lines_of b) m p xs p.rest.good (omega (arith, p.rest.count))))
          (subst (λ (cs : List Constraint). Permᴰ (map constraint_from xs) cs) (sym (made-constraints (lines_of b) m p ys good count))
          (Permᴰ.map constraint_from permuted));
    },
  ),
)
  where
    byte : Bytes b m
    byte = bytes b m h.accepted

    p : Parts (lines_of b) m
    p = parts (lines_of b) m byte.reads

    k : ℕ
    k = suc p.start.s

    same_s : 1 + m.s ≡ k
    same_s = omega (arith, ap (λ (z : Model). z.s) p.rest.model)

    xs : List (List ℕ)
    xs = drop k (lines_of b)

    ys : List (List ℕ)
    ys = drop k (lines_of o)

    permuted : Permᴰ xs ys
    permuted = subst (λ (i : ℕ). Permᴰ (drop i (lines_of b)) (drop i (lines_of o))) same_s h.permuted

    good : All (Good p.start.s) ys
    good = all-perm (Good p.start.s) permuted p.rest.good

    count : length ys ≡ p.start.c
    count = sym (perm-length permuted) ∙ omega (arith, p.rest.count)

    lines-o : lines_of o ≡ take k (lines_of b) ++ ys
    lines-o =
        sym (take-append-drop k (lines_of o))
        ∙ ap (λ (t : List (List ℕ)). t ++ ys) (subst (λ (i : ℕ). take i (lines_of o) ≡ take i (lines_of b)) same_s h.kept)

    f : List ℕ → ℕ
    f l = length (l ++ (10 ∷ []))

    same_length : length o ≡ length b
    same_length =
        ap length h.whole
        ∙ text-length (lines_of o)
        ∙ ap (total f) lines-o
        ∙ total-append f (take k (lines_of b)) ys
        ∙ ap (λ (i : ℕ). total f (take k (lines_of b)) + i) (sym (perm_total f permuted))
        ∙ sym (total-append f (take k (lines_of b)) xs)
        ∙ ap (total f) (take-append-drop k (lines_of b))
        ∙ sym (text-length (lines_of b))
        ∙ ap length (text-lines b byte.ended)

-- ---- so for every accepted sheet, and for every order of it

pub sheet_propagation : (b : List ℕ) (m : Model) → Accepted b m → Propagation m (propagated m)
sheet_propagation b m e = let a = accurate b m e in propagation m a.in_range_lem a.members
