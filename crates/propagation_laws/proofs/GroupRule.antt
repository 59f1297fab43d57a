-- The group rule is a rule of the frame of groups: it narrows, and keeps what it leaves as it is. Assumes nothing.
use mathlib.Core.Path.{◌≡◌, refl, sym, ap, subst}
use Prim.Native.Nat.{ℕ, ◌+◌, ◌-◌, ◌≤◌, ◌<◌}
use native.Mathlib.Nat.{le_refl, le_trans, le_antisymm, lt_of_not-le}
use native.Mathlib.Omega.{arith}
use mathlib.Core.Bool.{Bool, true, false, cond, ◌&&◌}
use mathlib.Core.List.{List, [], ◌∷◌}
use borrow.Author.Tests.{eqb-true, eq-eqb}
use lib.Dec.{T, eqb, leb, eqb→eq, eqb_refl, leb→le, le→leb}
use lib.Bits.{bit_and, bit_or}
use Rattle.model.specs.declared.Group.{Group}
use Rattle.model.specs.Words.{size, inside}
use Rattle.model.specs.Model.{zero_group, group_at}
use Rattle.model.specs.Propagate.{limited, cut, filled, group_rule, group_consistent, same_group}
use Rattle.model.specs.Demand.{group_within}
use Rattle.model.proofs.Lists.{All, and_left, and_right, and_both}
use Rattle.model.proofs.Words.{Sub, sub_refl, sub_trans, sub_antisym, sub-or_l, sub-or-r, sub-or, sub-and_l, sub-and-r, sub-and, inside-sub, sub-inside, size_mono, size-eq}
use Rattle.propagation_laws.proofs.Fixpoint.{Frame, Rule, Reduces, run-unchanged, run-reduces}
use Rattle.propagation_laws.proofs.Tables.{list_frame, place-within}

-- ---- the tests as facts

-- u is within t
pub record Narrow (u t : Group) : Type 0 where
  pub fix : Sub t.fixed u.fixed
  pub pos : Sub u.possible t.possible
  pub lo : t.low ≤ u.low
  pub hi : u.high ≤ t.high

pub record Sound (g : Group) : Type 0 where
  pub fits : Sub g.fixed g.possible
  pub order : g.low ≤ g.high

pub narrow : (u t : Group) → T (group_within u t) → Narrow u t
unfolding group_within
narrow u t w =
    let a = inside t.fixed u.fixed in
    let b = inside u.possible t.possible in
    let c = leb t.low u.low in
    let d = leb u.high t.high in
    record {
      fix = inside-sub t.fixed u.fixed (and_left a b (and_left (a && b) c (and_left (a && b && c) d w)));
      pos = inside-sub u.possible t.possible (and_right a b (and_left (a && b) c (and_left (a && b && c) d w)));
      lo = leb→le t.low u.low (and_right (a && b) c (and_left (a && b && c) d w));
      hi = leb→le u.high t.high (and_right (a && b && c) d w);
    }

pub is_within : (u t : Group) → Narrow u t → T (group_within u t)
unfolding group_within
is_within u t w =
    let a = inside t.fixed u.fixed in
    let b = inside u.possible t.possible in
    let c = leb t.low u.low in
    and_both (a && b && c) (leb u.high t.high)
    (and_both (a && b) c (and_both a b (sub-inside t.fixed u.fixed w.fix) (sub-inside u.possible t.possible w.pos))
    (le→leb t.low u.low w.lo))
    (le→leb u.high t.high w.hi)

pub sound : (g : Group) → T (group_consistent g) → Sound g
unfolding group_consistent
sound g c = record {
  fits = inside-sub g.fixed g.possible (and_left (inside g.fixed g.possible) (leb g.low g.high) c);
  order = leb→le g.low g.high (and_right (inside g.fixed g.possible) (leb g.low g.high) c);
}

pub is-consistent : (g : Group) → Sound g → T (group_consistent g)
unfolding group_consistent
is-consistent g s =
    and_both (inside g.fixed g.possible) (leb g.low g.high) (sub-inside g.fixed g.possible s.fits)
    (le→leb g.low g.high s.order)

pub group-eq : (u t : Group) → u.fixed ≡ t.fixed → u.possible ≡ t.possible → u.low ≡ t.low → u.high ≡ t.high → u ≡ t
group-eq u t p q r s = λ i. record { fixed = p i; possible = q i; low = r i; high = s i }

-- ---- the frame of groups

pub narrow-refl : (g : Group) → Narrow g g
narrow-refl g = record { fix = sub_refl g.fixed; pos = sub_refl g.possible; lo = le_refl g.low; hi = le_refl g.high }

pub narrow_trans : (x y z : Group) → Narrow x y → Narrow y z → Narrow x z
narrow_trans x y z p q = record {
  fix = sub_trans q.fix p.fix;
  pos = sub_trans p.pos q.pos;
  lo = le_trans q.lo p.lo;
  hi = le_trans p.hi q.hi;
}

pub narrow_antisym : (x y : Group) → Narrow x y → Narrow y x → x ≡ y
narrow_antisym x y p q =
    group-eq x y (sub_antisym q.fix p.fix) (sub_antisym p.pos q.pos) (le_antisymm q.lo p.lo) (le_antisymm p.hi q.hi)

pub narrow-sound : (x y : Group) → Narrow x y → Sound x → Sound y
narrow-sound x y w s = record { fits = sub_trans w.fix (sub_trans s.fits w.pos); order = omega (arith, s.order, w.lo, w.hi) }

pub same-group : (x y : Group) → T (same_group x y) → x ≡ y
unfolding same_group
same-group x y t =
    let a = eqb x.fixed y.fixed in
    let b = eqb x.possible y.possible in
    let c = eqb x.low y.low in
    let d = eqb x.high y.high in
    group-eq x y
    (eqb→eq x.fixed y.fixed (and_left a b (and_left (a && b) c (and_left (a && b && c) d t))))
    (eqb→eq x.possible y.possible (and_right a b (and_left (a && b) c (and_left (a && b && c) d t))))
    (eqb→eq x.low y.low (and_right (a && b) c (and_left (a && b && c) d t)))
    (eqb→eq x.high y.high (and_right (a && b && c) d t))

pub same-group-refl : (x : Group) → T (same_group x x)
unfolding same_group
same-group-refl x =
    let a = eqb x.fixed x.fixed in
    let b = eqb x.possible x.possible in
    let c = eqb x.low x.low in
    and_both (a && b && c) (eqb x.high x.high)
    (and_both (a && b) c (and_both a b (eqb_refl x.fixed) (eqb_refl x.possible)) (eqb_refl x.low)) (eqb_refl x.high)

-- what may still change in a group
abbrev pub slack : Group → ℕ
slack g = (g.high - g.low) + (size g.possible - size g.fixed)

pub slack-shrinks : (x y : Group) → Sound y → Narrow y x → (y ≡ x → ⊥) → slack y < slack x
slack-shrinks x y s w d = lt_of_not-le (λ (l : slack x ≤ slack y). d (group-eq y x
    (sym (size-eq w.fix (omega (arith, f, p, i))))
    (size-eq w.pos (omega (arith, f, p, i)))
    (omega (arith, f, p, i))
    (omega (arith, f, p, i))))
  where
    f : size x.fixed ≤ size y.fixed
    f = size_mono w.fix

    p : size y.possible ≤ size x.possible
    p = size_mono w.pos

    i : (size y.fixed ≤ size y.possible) × (y.low ≤ y.high)
    i = (size_mono s.fits, s.order)

abbrev pub group_frame : Frame Group
group_frame = record {
  within = group_within;
  ok = group_consistent;
  same = same_group;
  measure = slack;
  w-refl = λ x. is_within x x (narrow-refl x);
  w-trans = λ x y z p q. is_within x z (narrow_trans x y z (narrow x y p) (narrow y z q));
  w-antisym = λ x y p q. narrow_antisym x y (narrow x y p) (narrow y x q);
  ok-up = λ x y w c. is-consistent y (narrow-sound x y (narrow x y w) (sound x c));
  same-eq = same-group;
  same_refl = same-group-refl;
  shrinks = λ x y c w d. slack-shrinks x y (sound y c) (narrow y x w) d;
}

-- ---- each step narrows

limited_reduces : (g : Group) → Narrow (limited g) g
unfolding limited
limited_reduces g = record { fix = sub_refl g.fixed; pos = sub_refl g.possible; lo = omega arith; hi = omega arith }

cond-sub : (b : Bool) (x y : ℕ) → Sub x y → Sub (cond b x y) y
cond-sub true x y s = s
cond-sub false x y s = sub_refl y

cond_sup : (b : Bool) (x y : ℕ) → Sub y x → Sub y (cond b x y)
cond_sup true x y s = s
cond_sup false x y s = sub_refl y

cut_reduces : (g : Group) → Narrow (cut g) g
unfolding cut
cut_reduces g = record {
  fix = sub_refl g.fixed;
  pos = cond-sub (eqb (size g.fixed) g.high) (bit_and g.possible g.fixed) g.possible (sub-and_l g.possible g.fixed);
  lo = le_refl g.low;
  hi = le_refl g.high;
}

filled_reduces : (g : Group) → Narrow (filled g) g
unfolding filled
filled_reduces g = record {
  fix = cond_sup (eqb (size g.possible) g.low) (bit_or g.fixed g.possible) g.fixed (sub-or_l g.fixed g.possible);
  pos = sub_refl g.possible;
  lo = le_refl g.low;
  hi = le_refl g.high;
}

abbrev steps : List (Group → Group)
steps = limited ∷ cut ∷ filled ∷ []

steps_reduce : All (Reduces group_frame) steps
steps_reduce = (
  (λ g. is_within (limited g) g (limited_reduces g)),
  ((λ g. is_within (cut g) g (cut_reduces g)), ((λ g. is_within (filled g) g (filled_reduces g)), tt)),
)

-- ---- a group that the rule leaves as it is

pub record SettledGroup (u : Group) : Type 0 where
  pub fits : Sub u.fixed u.possible
  pub least : size u.fixed ≤ u.low
  pub order : u.low ≤ u.high
  pub most : u.high ≤ size u.possible
  pub full : size u.fixed ≡ u.high → u.possible ≡ u.fixed
  pub needed : size u.possible ≡ u.low → u.possible ≡ u.fixed

cut-settled : (u : Group) → cut u ≡ u → size u.fixed ≡ u.high → Sub u.possible u.fixed
unfolding cut
cut-settled u e h =
    let q : cond (eqb (size u.fixed) u.high) (bit_and u.possible u.fixed) u.possible ≡ u.possible = ap (λ (g : Group). g.possible) e in
    subst (λ (w : ℕ). Sub w u.fixed) (rw (eq-eqb (size u.fixed) u.high h) at q) (sub-and-r u.possible u.fixed)

filled-settled : (u : Group) → filled u ≡ u → size u.possible ≡ u.low → Sub u.possible u.fixed
unfolding filled
filled-settled u e h =
    let q : cond (eqb (size u.possible) u.low) (bit_or u.fixed u.possible) u.fixed ≡ u.fixed = ap (λ (g : Group). g.fixed) e in
    subst (λ (w : ℕ). Sub u.possible w) (rw (eq-eqb (size u.possible) u.low h) at q) (sub-or-r u.fixed u.possible)

pub settled-group : (u : Group) → T (group_consistent u) → group_rule u ≡ u → SettledGroup u
unfolding group_rule limited
settled-group u c e =
    let k = run-unchanged group_frame steps steps_reduce u e in
    let s = sound u c in
    record {
      fits = s.fits;
      least = omega (arith, ap (λ (g : Group). g.low) k.0);
      order = s.order;
      most = omega (arith, ap (λ (g : Group). g.high) k.0);
      full = λ h. sub_antisym (cut-settled u k.1.0 h) s.fits;
      needed = λ h. sub_antisym (filled-settled u k.1.1.0 h) s.fits;
    }

-- ---- what the rule keeps

module _ (u : Group) (k : SettledGroup u) where
  limited-keeps : (x : Group) → Narrow u x → Narrow u (limited x)
  unfolding limited
  limited-keeps x w = record {
    fix = w.fix;
    pos = w.pos;
    lo = omega (arith, w.lo, size_mono w.fix, k.least);
    hi = omega (arith, w.hi, size_mono w.pos, k.most);
  }

  cut-case : (x : Group) → Narrow u x → (b : Bool) → eqb (size x.fixed) x.high ≡ b → Sub u.possible (cond b (bit_and x.possible x.fixed) x.possible)
  cut-case x w false e = w.pos
  cut-case x w true e =
      let full : size x.fixed ≡ x.high = eqb-true (size x.fixed) x.high e in
      let m : size x.fixed ≤ size u.fixed = size_mono w.fix in
      let is : x.fixed ≡ u.fixed = size-eq w.fix (omega (arith, w.hi, k.least, k.order)) in
      sub-and w.pos (rw (is, k.full (omega (arith, w.hi, k.least, k.order))) (sub_refl u.fixed))

  cut_keeps : (x : Group) → Narrow u x → Narrow u (cut x)
  unfolding cut
  cut_keeps x w = record { fix = w.fix; pos = cut-case x w (eqb (size x.fixed) x.high) refl; lo = w.lo; hi = w.hi }

  filled-case : (x : Group) → Narrow u x → (b : Bool) → eqb (size x.possible) x.low ≡ b → Sub (cond b (bit_or x.fixed x.possible) x.fixed) u.fixed
  filled-case x w false e = w.fix
  filled-case x w true e =
      let all : size x.possible ≡ x.low = eqb-true (size x.possible) x.low e in
      let m : size u.possible ≤ size x.possible = size_mono w.pos in
      let is : u.possible ≡ x.possible = size-eq w.pos (omega (arith, w.lo, k.most, k.order)) in
      sub-or w.fix (rw (← is, k.needed (omega (arith, w.lo, k.most, k.order))) (sub_refl u.fixed))

  filled_keeps : (x : Group) → Narrow u x → Narrow u (filled x)
  unfolding filled
  filled_keeps x w = record { fix = filled-case x w (eqb (size x.possible) x.low) refl; pos = w.pos; lo = w.lo; hi = w.hi }

  rule-keeps : (x : Group) → Narrow u x → Narrow u (group_rule x)
  unfolding group_rule
  rule-keeps x w = filled_keeps (cut (limited x)) (cut_keeps (limited x) (limited-keeps x w))

pub group_rule_lem : Rule group_frame group_rule
unfolding group_rule
group_rule_lem = record {
  reduces = run-reduces group_frame steps steps_reduce;
  keeps = λ u x c e w. is_within u (group_rule x) (rule-keeps u (settled-group u c e) x (narrow u x w));
}

-- ---- tables

abbrev pub table_frame : Frame (List Group)
table_frame = list_frame group_frame

-- a group of a narrower table
pub group-narrow : (u x : List Group) → T (table_frame.within u x) → (g : ℕ) → Narrow (group_at u g) (group_at x g)
unfolding group_at
group-narrow u x w g = narrow (group_at u g) (group_at x g) (place-within group_frame zero_group (g - 1) u x w)
