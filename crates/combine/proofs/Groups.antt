-- Laws of two groups, and of two tables, made one. Assumes nothing.
use mathlib.Core.Path.{◌≡◌, refl, sym, ap, ap₂, ◌∙◌, subst}
use Prim.Native.Nat.{ℕ, zero, suc, ◌+◌, ◌-◌, ◌≤◌, ◌<◌, max, min}
use native.Mathlib.Omega.{arith}
use native.Mathlib.Numerals.{add-one}
use mathlib.Core.Bool.{◌&&◌}
use mathlib.Core.List.{List, [], ◌∷◌, ◌++◌}
use lib.Dec.{T, leb, leb→le, le→leb}
use lib.ListN.{length, get_or, take, set, replicate}
use lib.Seq.{length-take-le}
use Rattle.model.specs.declared.Group.{Group}
use Rattle.std.specs.List.{list_all}
use Rattle.model.specs.Lists.{pairwise}
use Rattle.model.specs.Words.{inside}
use Rattle.model.specs.Model.{zero_group, group_in_range}
use Rattle.model.specs.Solution.{allowed}
use Rattle.model.specs.Combine.{combined_group, combined_table, fits}
use Rattle.model.specs.Demand.{group_within, within}
use Rattle.model.proofs.Lists.{T-ext, and_left, and_right, and_both, and_interchange, stored_next}
use Rattle.model.proofs.Words.{Sub, sub_trans, sub-or_l, sub-or-r, sub-or, sub-and_l, sub-and-r, sub-and, sub-le, inside-sub, sub-inside}
use Rattle.propagation_laws.proofs.GroupRule.{narrow, is_within}
use Rattle.propagation_laws.proofs.Points.{point, points, allowed-points}
use Rattle.propagation_laws.proofs.Ranges.{group-range, is-group-range}

-- ---- two groups

record Fits (x y : Group) : Type 0 where
  first : Sub x.fixed y.possible
  second : Sub y.fixed x.possible
  limits : max x.low y.low ≤ min x.high y.high

fits-parts : (x y : Group) → T (fits x y) → Fits x y
unfolding fits
fits-parts x y t =
    let a = inside x.fixed y.possible in
    let b = inside y.fixed x.possible in
    let c = leb (max x.low y.low) (min x.high y.high) in
    record {
      first = inside-sub x.fixed y.possible (and_left a b (and_left (a && b) c t));
      second = inside-sub y.fixed x.possible (and_right a b (and_left (a && b) c t));
      limits = leb→le (max x.low y.low) (min x.high y.high) (and_right (a && b) c t);
    }

parts-fit : (x y : Group) → Fits x y → T (fits x y)
unfolding fits
parts-fit x y p =
    let a = inside x.fixed y.possible in
    let b = inside y.fixed x.possible in
    and_both (a && b) (leb (max x.low y.low) (min x.high y.high))
    (and_both a b (sub-inside x.fixed y.possible p.first) (sub-inside y.fixed x.possible p.second))
    (le→leb (max x.low y.low) (min x.high y.high) p.limits)

-- a group is within both exactly if it is within the combined one
both-within : (u x y : Group) → group_within u (combined_group x y) ≡ (group_within u x && group_within u y)
unfolding combined_group
both-within u x y =
    T-ext (group_within u (combined_group x y)) (group_within u x && group_within u y)
    (λ t.
    let p = narrow u (combined_group x y) t in
    and_both (group_within u x) (group_within u y)
    (is_within u x (record {
      fix = sub_trans (sub-or_l x.fixed y.fixed) p.fix;
      pos = sub_trans p.pos (sub-and_l x.possible y.possible);
      lo = omega (arith, p.lo);
      hi = omega (arith, p.hi);
    }))
    (is_within u y (record {
      fix = sub_trans (sub-or-r x.fixed y.fixed) p.fix;
      pos = sub_trans p.pos (sub-and-r x.possible y.possible);
      lo = omega (arith, p.lo);
      hi = omega (arith, p.hi);
    })))
    (λ t.
    let p = narrow u x (and_left (group_within u x) (group_within u y) t) in
    let q = narrow u y (and_right (group_within u x) (group_within u y) t) in
    is_within u (combined_group x y) (record {
      fix = sub-or p.fix q.fix;
      pos = sub-and p.pos q.pos;
      lo = omega (arith, p.lo, q.lo);
      hi = omega (arith, p.hi, q.hi);
    }))

-- where a set of entrants is within both, they fit
point-fits : (x y : Group) (w : ℕ) → T (group_within (point w) x) → T (group_within (point w) y) → T (fits x y)
point-fits x y w s t =
    let p = narrow (point w) x s in
    let q = narrow (point w) y t in
    parts-fit x y (record {
      first = sub_trans p.fix q.pos;
      second = sub_trans q.fix p.pos;
      limits = omega (arith, p.lo, p.hi, q.lo, q.hi);
    })

-- two groups in range that fit are one in range
group-combined : (n : ℕ) (x y : Group) → T (group_in_range n x) → T (group_in_range n y) → T (fits x y) → T (group_in_range n (combined_group x y))
unfolding combined_group
group-combined n x y s t f =
    let p = group-range n x s in
    let q = group-range n y t in
    let k = fits-parts x y f in
    is-group-range n (combined_group x y) (record {
      fits = sub-or (sub-and p.fits k.first) (sub-and k.second q.fits);
      small = omega (arith, sub-le (sub-and_l x.possible y.possible), p.small);
      order = k.limits;
      top = omega (arith, p.top);
    })

-- ---- two tables

pub table-short : (xs ys : List Group) → length (combined_table xs ys) ≤ length xs
table-short [] ys = omega arith
table-short (x ∷ xs) [] = omega arith
table-short (x ∷ xs) (y ∷ ys) = omega (arith, table-short xs ys)

pub table-length : (xs ys : List Group) → length xs ≡ length ys → length (combined_table xs ys) ≡ length xs
table-length [] ys e = refl
table-length (x ∷ xs) [] e = absurd (omega arith)
table-length (x ∷ xs) (y ∷ ys) e = ap suc (table-length xs ys (omega arith))

table-within : (us xs ys : List Group) → length xs ≡ length ys
    → pairwise group_within us (combined_table xs ys) ≡ (pairwise group_within us xs && pairwise group_within us ys)
table-within [] [] [] e = refl
table-within (u ∷ us) [] [] e = refl
table-within us [] (y ∷ ys) e = absurd (omega arith)
table-within us (x ∷ xs) [] e = absurd (omega arith)
table-within [] (x ∷ xs) (y ∷ ys) e = refl
table-within (u ∷ us) (x ∷ xs) (y ∷ ys) e =
    rw (both-within u x y, table-within us xs ys (omega arith))
    (and_interchange (group_within u x) (group_within u y) (pairwise group_within us xs) (pairwise group_within us ys))

-- a list of sets is allowed by both tables exactly if it is by the combined one
pub table-draws : (xs ys : List Group) (d : List ℕ) → length xs ≡ length ys
    → pairwise allowed (combined_table xs ys) d ≡ (pairwise allowed xs d && pairwise allowed ys d)
unfolding within
table-draws xs ys d e =
    allowed-points (combined_table xs ys) d
    ∙ table-within (points d) xs ys e
    ∙ sym (ap₂ ◌&&◌ (allowed-points xs d) (allowed-points ys d))

points-fit : (xs ys : List Group) (d : List ℕ) → T (pairwise group_within (points d) xs) → T (pairwise group_within (points d) ys) → T (pairwise fits xs ys)
points-fit [] [] d s t = tt
points-fit [] (y ∷ ys) [] s t = absurd t
points-fit [] (y ∷ ys) (w ∷ d) s t = absurd s
points-fit (x ∷ xs) ys [] s t = absurd s
points-fit (x ∷ xs) [] (w ∷ d) s t = absurd t
points-fit (x ∷ xs) (y ∷ ys) (w ∷ d) s t =
    let a = group_within (point w) x in
    let b = group_within (point w) y in
    and_both (fits x y) (pairwise fits xs ys)
    (point-fits x y w (and_left a (pairwise group_within (points d) xs) s) (and_left b (pairwise group_within (points d) ys) t))
    (points-fit xs ys d (and_right a (pairwise group_within (points d) xs) s) (and_right b (pairwise group_within (points d) ys) t))

-- where some sets are allowed by both, the tables fit
pub tables_fit : (xs ys : List Group) (d : List ℕ) → T (pairwise allowed xs d) → T (pairwise allowed ys d) → T (pairwise fits xs ys)
unfolding within
tables_fit xs ys d s t = points-fit xs ys d (subst T (allowed-points xs d) s) (subst T (allowed-points ys d) t)

pub table-combined : (n : ℕ) (xs ys : List Group) → T (list_all (group_in_range n) xs) → T (list_all (group_in_range n) ys) → T (pairwise fits xs ys)
    → T (list_all (group_in_range n) (combined_table xs ys))
table-combined n [] ys s t f = tt
table-combined n (x ∷ xs) [] s t f = tt
table-combined n (x ∷ xs) (y ∷ ys) s t f =
    let a = group_in_range n x in
    let b = group_in_range n y in
    and_both (group_in_range n (combined_group x y)) (list_all (group_in_range n) (combined_table xs ys))
    (group-combined n x y (and_left a (list_all (group_in_range n) xs) s) (and_left b (list_all (group_in_range n) ys) t) (and_left (fits x y) (pairwise fits xs ys) f))
    (table-combined n xs ys (and_right a (list_all (group_in_range n) xs) s) (and_right b (list_all (group_in_range n) ys) t) (and_right (fits x y) (pairwise fits xs ys) f))

-- one group more of each
pub table-next : (xs ys : List Group) (i : ℕ) (g h : Group) → i < length xs → i < length ys
    → combined_table (take (suc i) xs) (take (suc i) ys) ≡ combined_table (take i xs) (take i ys) ++ (combined_group (get_or xs i g) (get_or ys i h) ∷ [])
table-next [] ys i g h l m = absurd (omega arith)
table-next (x ∷ xs) [] i g h l m = absurd (omega arith)
table-next (x ∷ xs) (y ∷ ys) zero g h l m = refl
table-next (x ∷ xs) (y ∷ ys) (suc i) g h l m =
    ap {B = List Group} (λ t. combined_group x y ∷ t) (table-next xs ys i g h (omega arith) (omega arith))

-- one combined group more stored over zeros
pub group-stored : (xs ys groups : List Group) (n i : ℕ) (g : Group) → i < length xs → i < length ys → i < n
    → groups ≡ combined_table (take i xs) (take i ys) ++ replicate (n - i) zero_group → g ≡ combined_group (get_or xs i zero_group) (get_or ys i zero_group)
    → set groups i g ≡ combined_table (take (i + 1) xs) (take (i + 1) ys) ++ replicate (n - (i + 1)) zero_group
group-stored xs ys groups n i g h k l e f =
    let xl : length (take i xs) ≡ i = length-take-le i xs (omega arith) in
    let yl : length (take i ys) ≡ i = length-take-le i ys (omega arith) in
    let t = combined_table (take i xs) (take i ys) in
    let last : combined_table (take (i + 1) xs) (take (i + 1) ys) ≡ t ++ (g ∷ []) = rw (add-one i, f) (table-next xs ys i zero_group zero_group h k) in
    ap (λ (r : List Group). set r i g) e
    ∙ stored_next t n i zero_group g (table-length (take i xs) (take i ys) (xl ∙ sym yl) ∙ xl) l
    ∙ ap (λ (r : List Group). r ++ replicate (n - (i + 1)) zero_group) (sym last)
