-- Laws of noting: what the marks cover, and that noting keeps the invariant. Assumes nothing.
use mathlib.Core.Path.{◌≡◌, refl, sym, ap, ap₂, ◌∙◌, subst}
use Prim.Native.Nat.{ℕ, ◌+◌, ◌-◌, ◌*◌, ◌≤◌, ◌<◌}
use native.Mathlib.Decide.{ℕ_discrete}
use native.Mathlib.Omega.{arith}
use mathlib.Core.Bool.{Bool, true, false, not, ◌&&◌, ◌||◌}
use mathlib.Core.List.{List, ◌∷◌}
use borrow.Author.Tests.{eqb-true, eqb-false, eq-eqb, ne_eqb}
use lib.Dec.{T, eqb}
use lib.ListN.{length, get_or, set, take, drop, length-set, drop_of_length-le}
use lib.Seq.{get_or-set_same, get_or-set_other, ext_get_or}
use Rattle.model.specs.declared.Group.{Group}
use Rattle.model.specs.declared.Constraint.{Constraint}
use Rattle.model.specs.Limits.{limits}
use Rattle.model.specs.Clauses.{member_count, groups_of}
use Rattle.model.specs.Model.{zero_group, code_in_range}
use Rattle.model.specs.Propagate.{group_rule_at, constraint_rule}
use Rattle.model.proofs.Loops.{drop-next}
use Rattle.marks.specs.Marks.{marked, with_mark, without_mark, AddsRow}
use Rattle.marks.proofs.Bits.{mark_set, mark-cleared}
use Rattle.propagation_laws.proofs.Locality.{owns, kept, on_group, on-constraint}
use Rattle.table.specs.Table.{Whole}
use Rattle.propagate.specs.Skip.{line_at, Index, Quiet, Covers, Notes, NotesAll, DifferIn, Step, Any, Line}

-- ---- what is covered

module _ (index : List ℕ) where
  pub covers-same : (gs ls : List ℕ) (x : List Group) → Covers index gs ls x gs ls x
  covers-same gs ls x = record { groups = λ i e. (e, refl); lines = λ j h e. (e, λ i m. refl) }

  pub covers-then : (gs ls gs₁ ls₁ gs₂ ls₂ : List ℕ) (x y z : List Group) → Covers index gs ls x gs₁ ls₁ y → Covers index gs₁ ls₁ y gs₂ ls₂ z
      → Covers index gs ls x gs₂ ls₂ z
  covers-then gs ls gs₁ ls₁ gs₂ ls₂ x y z a b = record {
    groups = λ i e.
        let q = b.groups i e in
        let p = a.groups i q.0 in
        (p.0, q.1 ∙ p.1);
    lines = λ j h e.
        let q = b.lines j h e in
        let p = a.lines j h q.0 in
        (p.0, λ i m. q.1 i m ∙ p.1 i m);
  }

  -- the invariant is kept
  pub quiet-covers : (n s : ℕ) (cs : List Constraint) (gs ls gs₁ ls₁ : List ℕ) (x y : List Group) → Index cs index → length x ≡ length y
      → Covers index gs ls x gs₁ ls₁ y → Quiet n s cs gs ls x → Quiet n s cs gs₁ ls₁ y
  quiet-covers n s cs gs ls gs₁ ls₁ x y i l c q = record {
    groups = λ k h e.
        let p = c.groups k e in
        kept (eqb k) (group_rule_at (k + 1)) (on_group k) x y l
        (λ m o. ap (λ (z : ℕ). get_or x z zero_group) (sym (eqb-true k m o)) ∙ sym p.1 ∙ ap (λ (z : ℕ). get_or y z zero_group) (eqb-true k m o))
        (q.groups k h p.0);
    lines = λ j h e.
        let p = c.lines j (omega (arith, i.few)) e in
        kept (owns (groups_of (line_at cs j))) (constraint_rule n (line_at cs j)) (on-constraint n (line_at cs j) (i.code j h) (i.wide j h)) x y l
        (λ m o. sym (p.1 m (i.row j h m o)))
        (q.lines j h p.0);
  }

-- ---- one group is noted

pub or-left-none : (a b : Bool) → (a || b) ≡ false → a ≡ false
or-left-none true b e = e
or-left-none false b e = refl

pub or_right_none : (a b : Bool) → (a || b) ≡ false → b ≡ false
or_right_none true b e = let n : ◌≡◌ {A = ℕ} 0 1 = cc in absurd (omega arith)
or_right_none false b e = e

not-both : {A : Type 0} (b : Bool) → b ≡ true → b ≡ false → A
not-both b p q = let n : ◌≡◌ {A = ℕ} 0 1 = cc in absurd (omega arith)

module _ (index : List ℕ) (i : ℕ) (u x : List Group) (gs ls : List ℕ) (small : i < 256) (w : length gs ≡ 4) where
  pub notes-other : (get_or u i zero_group ≡ get_or x i zero_group → ⊥) → (y : List Group) → y ≡ set x i (get_or u i zero_group)
      → (gs₁ ls₁ : List ℕ) → gs₁ ≡ with_mark i gs → AddsRow index i ls ls₁ → Notes true i index u x y gs ls gs₁ ls₁
  notes-other f y e gs₁ ls₁ m r = record {
    seen = e;
    same = λ p. let n : ◌≡◌ {A = ℕ} 0 1 = cc in absurd (omega arith);
    still = λ p. absurd (f p);
    covers = record {
      groups = λ k q.
          let b = sym (mark_set gs i (omega (arith, w)) k) ∙ sym (ap (λ (z : List ℕ). marked z k) m) ∙ q in
          (or-left-none (marked gs k) (eqb i k) b, other k (λ z. not-both (eqb i k) (eq-eqb i k (sym z)) (or_right_none (marked gs k) (eqb i k) b)));
      lines = λ j h q.
          let b = sym (r.1 j h) ∙ q in (
            or-left-none (marked ls j) (marked index (256 * i + j)) b,
            λ k p. other k (λ z. not-both (marked index (256 * i + j)) (subst (λ (o : ℕ). marked index (256 * o + j) ≡ true) z p)
                (or_right_none (marked ls j) (marked index (256 * i + j)) b)),
          );
    };
  }
    where
      other : (k : ℕ) → (k ≡ i → ⊥) → get_or y k zero_group ≡ get_or x k zero_group
      other k n = ap (λ (z : List Group). get_or z k zero_group) e ∙ get_or-set_other x i k (get_or u i zero_group) zero_group n

-- as the code compares two groups
alike : (a : Group) → (eqb a.fixed a.fixed && (eqb a.possible a.possible && (eqb a.low a.low && eqb a.high a.high))) ≡ true
alike a = rw (eq-eqb a.fixed a.fixed refl, eq-eqb a.possible a.possible refl, eq-eqb a.low a.low refl, eq-eqb a.high a.high refl)

pub not_seen : (a b : Group) → false ≡ (eqb a.fixed b.fixed && (eqb a.possible b.possible && (eqb a.low b.low && eqb a.high b.high))) → a ≡ b → ⊥
not_seen a b h e =
    let k : false ≡ true = h ∙ ap (λ (x : Group). eqb a.fixed x.fixed && (eqb a.possible x.possible && (eqb a.low x.low && eqb a.high x.high))) (sym e) ∙ alike a in cc

-- ---- the groups of a line are noted

-- those from place k on are left: u is the table, x the one last seen at the start, y the one seen now
pub record MembersLeft (ids : List ℕ) (k : ℕ) (changed : Bool) (index : List ℕ) (u x y : List Group) (gs ls gs₁ ls₁ : List ℕ) : Type 0 where
  pub left : DifferIn (drop k ids) y u
  pub same : changed ≡ false → y ≡ x
  pub still : u ≡ x → changed ≡ false
  pub covers : Covers index gs ls x gs₁ ls₁ y
  pub whole : Whole y

pub false-or : (a b : Bool) → a ≡ false → b ≡ false → (a || b) ≡ false
false-or a b p q = rw (p, q)

module _ (ids : List ℕ) (index : List ℕ) (u x : List Group) (gs ls : List ℕ) where
  pub members-next : (k : ℕ) (changed : Bool) (y : List Group) (gs₁ ls₁ : List ℕ) → MembersLeft ids k changed index u x y gs ls gs₁ ls₁ → k < length ids
      → (i : ℕ) → i ≡ get_or ids k 0 - 1 → i < 256 → (r : Bool) (z : List Group) (gs₂ ls₂ : List ℕ) → Notes r i index u y z gs₁ ls₁ gs₂ ls₂
      → MembersLeft ids (k + 1) (changed || r) index u x z gs ls gs₂ ls₂
  members-next k changed y gs₁ ls₁ inv h i e small r z gs₂ ls₂ a = record {
    left = λ m o. go m o (ℕ_discrete m i);
    same = λ q. a.same (or_right_none changed r q) ∙ inv.same (or-left-none changed r q);
    still = λ q.
        let f = inv.still q in
        false-or changed r f (a.still (ap (λ (t : List Group). get_or t i zero_group) (q ∙ sym (inv.same f))));
    covers = covers-then index gs ls gs₁ ls₁ gs₂ ls₂ x y z inv.covers a.covers;
    whole = ap length a.seen ∙ length-set y i (get_or u i zero_group) ∙ inv.whole;
  }
    where
      rest : drop k ids ≡ get_or ids k 0 ∷ drop (k + 1) ids
      rest = drop-next 0 ids k h

      go : (m : ℕ) → owns (drop (k + 1) ids) m ≡ false → Dec (m ≡ i) → get_or z m zero_group ≡ get_or u m zero_group
      go m o (yes q) =
          ap (λ (t : List Group). get_or t m zero_group) a.seen
          ∙ ap (λ (n : ℕ). get_or (set y i (get_or u i zero_group)) n zero_group) q
          ∙ get_or-set_same y i (get_or u i zero_group) zero_group (omega (arith, inv.whole))
          ∙ sym (ap (λ (n : ℕ). get_or u n zero_group) q)
      go m o (no f) =
          ap (λ (t : List Group). get_or t m zero_group) a.seen
          ∙ get_or-set_other y i m (get_or u i zero_group) zero_group f
          ∙ inv.left m (ap (λ (l : List ℕ). owns l m) rest ∙ false-or (eqb (get_or ids k 0 - 1) m) (owns (drop (k + 1) ids) m) (ne_eqb (get_or ids k 0 - 1) m (λ p. f (sym (e ∙ p)))) o)

  pub members-end : (k : ℕ) (changed : Bool) (y : List Group) (gs₁ ls₁ : List ℕ) → MembersLeft ids k changed index u x y gs ls gs₁ ls₁ → length ids ≤ k → Whole u
      → NotesAll changed index u x y gs ls gs₁ ls₁
  members-end k changed y gs₁ ls₁ inv h wu = record {
    seen = ext_get_or zero_group y u (inv.whole ∙ sym wu) (λ m l. inv.left m (ap (λ (t : List ℕ). owns t m) (drop_of_length-le ids h)));
    same = inv.same;
    still = inv.still;
    covers = inv.covers;
  }

-- ---- a step

-- where the group at place i alone differs
pub notes_all : (r : Bool) (i : ℕ) (index : List ℕ) (u x y : List Group) (gs ls gs₁ ls₁ : List ℕ) → Notes r i index u x y gs ls gs₁ ls₁ → i < 256 → Whole x → Whole u
    → ((k : ℕ) → eqb i k ≡ false → get_or u k zero_group ≡ get_or x k zero_group) → NotesAll r index u x y gs ls gs₁ ls₁
notes_all r i index u x y gs ls gs₁ ls₁ a small wx wu other = record {
  seen = a.seen ∙ ext_get_or zero_group (set x i (get_or u i zero_group)) u (length-set x i (get_or u i zero_group) ∙ wx ∙ sym wu) (λ k h. go k (eqb i k) refl);
  same = a.same;
  still = λ e. a.still (ap (λ (t : List Group). get_or t i zero_group) e);
  covers = a.covers;
}
  where
    go : (k : ℕ) (b : Bool) → eqb i k ≡ b → get_or (set x i (get_or u i zero_group)) k zero_group ≡ get_or u k zero_group
    go k true e =
        let q = eqb-true i k e in
        subst (λ (n : ℕ). get_or (set x i (get_or u i zero_group)) n zero_group ≡ get_or u n zero_group) q (get_or-set_same x i (get_or u i zero_group) zero_group (omega (arith, wx)))
    go k false e = get_or-set_other x i k (get_or u i zero_group) zero_group (λ q. eqb-false i k e (sym q)) ∙ sym (other k e)

pub noted_step : (Of : ℕ → List Constraint → Type 0) (rule : List Group → List Group) (r : Bool) (index : List ℕ) (t u x y : List Group) (gs ls gs₁ ls₁ : List ℕ)
    → NotesAll r index u x y gs ls gs₁ ls₁ → x ≡ t → Whole t → Whole u → u ≡ rule t → Step Of rule index r t gs ls u y gs₁ ls₁
noted_step Of rule r index t u x y gs ls gs₁ ls₁ a e wt wu is = record {
  next = is;
  seen = a.seen;
  same = λ p. sym a.seen ∙ a.same p ∙ e;
  still = λ p. a.still (is ∙ p ∙ sym e);
  quiet = λ n s cs o i q.
      subst (Quiet n s cs gs₁ ls₁) a.seen
      (quiet-covers index n s cs gs ls gs₁ ls₁ x y i (ap length e ∙ wt ∙ sym (ap length a.seen ∙ wu)) a.covers (subst (Quiet n s cs gs ls) (sym e) q));
}

not-and : (a b : Bool) → (a && not b) ≡ false → b ≡ false → a ≡ false
not-and true b p q = let n : ◌≡◌ {A = ℕ} 0 1 = cc in absurd (omega arith)
not-and false b p q = refl

module _ (Of : ℕ → List Constraint → Type 0) (rule : List Group → List Group) (index : List ℕ) (r : Bool) (t : List Group) (gs ls : List ℕ) (u y : List Group) (gs₁ ls₁ : List ℕ)
    (a : Step Of rule index r t gs ls u y gs₁ ls₁) (no : r ≡ false) where
  rests : rule u ≡ u
  rests = ap rule (a.same no) ∙ sym a.next

  -- the rule's own mark may go where nothing changed
  pub unmark-group : (i : ℕ) → i < 256 → length gs₁ ≡ 4 → ((v : List Group) → rule v ≡ group_rule_at (i + 1) v) → (gs₂ : List ℕ) → gs₂ ≡ without_mark i gs₁
      → Step Of rule index r t gs ls u y gs₂ ls₁
  unmark-group i small w is gs₂ e = record {
    next = a.next;
    seen = a.seen;
    same = a.same;
    still = a.still;
    quiet = λ n s cs o x q.
        let b = a.quiet n s cs o x q in
        record { groups = λ k h m. go n s cs b k h m (eqb i k) refl; lines = b.lines };
  }
    where
      go : (n s : ℕ) (cs : List Constraint) → Quiet n s cs gs₁ ls₁ u → (k : ℕ) → k < s → marked gs₂ k ≡ false → (b : Bool) → eqb i k ≡ b → group_rule_at (k + 1) u ≡ u
      go n s cs q k h m true f = subst (λ (z : ℕ). group_rule_at (z + 1) u ≡ u) (eqb-true i k f) (sym (is u) ∙ rests)
      go n s cs q k h m false f =
          q.groups k h (not-and (marked gs₁ k) (eqb i k) (sym (mark-cleared gs₁ i (omega (arith, w)) k) ∙ sym (ap (λ (z : List ℕ). marked z k) e) ∙ m) f)

  pub unmark-line : (j : ℕ) → j < 256 → length ls₁ ≡ 4 → ((n : ℕ) (cs : List Constraint) → Of n cs → (v : List Group) → rule v ≡ constraint_rule n (line_at cs j) v)
      → (ls₂ : List ℕ) → ls₂ ≡ without_mark j ls₁ → Step Of rule index r t gs ls u y gs₁ ls₂
  unmark-line j small w is ls₂ e = record {
    next = a.next;
    seen = a.seen;
    same = a.same;
    still = a.still;
    quiet = λ n s cs o x q.
        let b = a.quiet n s cs o x q in
        record { groups = b.groups; lines = λ k h m. go n s cs o b k h m (eqb j k) refl };
  }
    where
      go : (n s : ℕ) (cs : List Constraint) → Of n cs → Quiet n s cs gs₁ ls₁ u → (k : ℕ) → k < length cs → marked ls₂ k ≡ false → (b : Bool) → eqb j k ≡ b
          → constraint_rule n (line_at cs k) u ≡ u
      go n s cs o q k h m true f = subst (λ (z : ℕ). constraint_rule n (line_at cs z) u ≡ u) (eqb-true j k f) (sym (is n cs o u) ∙ rests)
      go n s cs o q k h m false f =
          q.lines k h (not-and (marked ls₁ k) (eqb j k) (sym (mark-cleared ls₁ j (omega (arith, w)) k) ∙ sym (ap (λ (z : List ℕ). marked z k) e) ∙ m) f)

-- ---- a group's step, and a line's

module _ (i : ℕ) (small : i < 256) (t x u : List Group) (gs ls : List ℕ) (wt : Whole t) (seen : x ≡ t) (is : u ≡ group_rule_at (i + 1) t) where
  group-whole : Whole u
  group-whole = ap length is ∙ (on_group i).size t ∙ wt

  last-whole : Whole x
  last-whole = ap length seen ∙ wt

  pub group-noted : (r : Bool) (index : List ℕ) (y : List Group) (gs₁ ls₁ : List ℕ) → Notes r i index u x y gs ls gs₁ ls₁
      → Step Any (group_rule_at (i + 1)) index r t gs ls u y gs₁ ls₁
  group-noted r index y gs₁ ls₁ a =
      noted_step Any (group_rule_at (i + 1)) r index t u x y gs ls gs₁ ls₁
      (notes_all r i index u x y gs ls gs₁ ls₁ a small last-whole group-whole
      (λ k e. ap (λ (z : List Group). get_or z k zero_group) is ∙ (on_group i).frame t k e ∙ sym (ap (λ (z : List Group). get_or z k zero_group) seen)))
      seen wt group-whole is

  pub group-quiet : (r : Bool) (index : List ℕ) (y : List Group) (gs₁ ls₁ gs₂ : List ℕ) → Notes r i index u x y gs ls gs₁ ls₁ → r ≡ false → length gs₁ ≡ 4 → gs₂ ≡ without_mark i gs₁
      → Step Any (group_rule_at (i + 1)) index r t gs ls u y gs₂ ls₁
  group-quiet r index y gs₁ ls₁ gs₂ a off w e =
      unmark-group Any (group_rule_at (i + 1)) index r t gs ls u y gs₁ ls₁ (group-noted r index y gs₁ ls₁ a) off i small w (λ v. refl) gs₂ e

module _ (n j : ℕ) (small : j < 256) (l : Constraint) (ok : T (code_in_range l.code l.count)) (wide : limits.members ≤ length l.groups)
    (t x u : List Group) (gs ls : List ℕ) (wt : Whole t) (seen : x ≡ t) (is-rule : u ≡ constraint_rule n l t) where
  line-whole : Whole u
  line-whole = ap length is-rule ∙ (on-constraint n l ok wide).size t ∙ wt

  pub line-differ : (k : ℕ) → k ≡ member_count l.code l.count → DifferIn (take k l.groups) x u
  line-differ k e i o =
      let own : owns (groups_of l) i ≡ false = unfold groups_of in rw e at o in
      ap (λ (z : List Group). get_or z i zero_group) seen
      ∙ sym (ap (λ (z : List Group). get_or z i zero_group) is-rule ∙ (on-constraint n l ok wide).frame t i own)

  pub line-noted : (r : Bool) (index : List ℕ) (y : List Group) (gs₁ ls₁ : List ℕ) → NotesAll r index u x y gs ls gs₁ ls₁
      → Step (Line n j l) (constraint_rule n l) index r t gs ls u y gs₁ ls₁
  line-noted r index y gs₁ ls₁ a =
      noted_step (Line n j l) (constraint_rule n l) r index t u x y gs ls gs₁ ls₁ a seen wt line-whole is-rule

  pub line_quiet : (r : Bool) (index : List ℕ) (y : List Group) (gs₁ ls₁ ls₂ : List ℕ) → NotesAll r index u x y gs ls gs₁ ls₁ → r ≡ false → length ls₁ ≡ 4 → ls₂ ≡ without_mark j ls₁
      → Step (Line n j l) (constraint_rule n l) index r t gs ls u y gs₁ ls₂
  line_quiet r index y gs₁ ls₁ ls₂ a off w e =
      unmark-line (Line n j l) (constraint_rule n l) index r t gs ls u y gs₁ ls₁ (line-noted r index y gs₁ ls₁ a) off j small w
      (λ m cs o v. ap₂ (λ (p : ℕ) (q : Constraint). constraint_rule p q v) (sym o.0) (sym o.1.1)) ls₂ e
