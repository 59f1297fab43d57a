use mathlib.Core.Path.{◌≡◌, refl, ap, ◌∙◌}
use Prim.Native.Nat.{ℕ, ◌+◌, ◌-◌, ◌/◌, ◌≤◌, ◌<◌}
use native.Mathlib.Nat.{le_trans, le_refl}
use native.Mathlib.Omega.{arith}
use Rattle.model.specs.Limits.{limits}
use Rattle.model.specs.Totalizer.{tree_output_count}
use Rattle.encoding_laws.proofs.Counts.{output-count-step}
use Rattle.numbering.proofs.Totalizers.{within_word}
use Rattle.cnf.specs.Parts.{tree_text, Among}
use Rattle.cnf.proofs.Entry.{does-not-fit}
use Rattle.cnf.proofs.Fits.{ran-zero, ran-kept}
use Rattle.cnf.proofs.Subtrees.{left-longer, right-longer, ran-left, ran-right, ran-halves, own-place, ran-own, ran-no-own}
use Rattle.cnf.proofs.totalizer.+put_tree.Goals as goal
use Rattle.cnf.proofs.totalizer.+put_tree.Goals.{then-left-most+else-not-own_fits, else-left-most}

-- places in the tree, and sizes of the halves
tree_of : (f x e m : ℕ) → f ≤ x → x < e → e ≤ f + (m - 1) → 2 ≤ m
tree_of f x e m h k l = omega arith

nothing-less : (m : ℕ) → 0 ≤ m
nothing-less m = omega arith

half-word : (m : ℕ) → m ≤ limits.word → m / 2 ≤ limits.word
half-word m h = omega arith

rest-word : (m : ℕ) → 2 ≤ m → m ≤ limits.word → (1 ≤ m - m / 2) × (m - m / 2 ≤ limits.word)
rest-word m h k = (omega arith, omega arith)

rest-falls : (m : ℕ) {t : ℕ} → 2 ≤ m → m ≡ t → m - m / 2 < t
rest-falls m h e = omega arith

rest_among : (v m : ℕ) → Among v m → Among (v + m / 2) (m - m / 2)
rest_among v m h = omega arith

rest-outputs : (o s m x y p : ℕ) → s ≡ m + x + y → p ≡ o + x → Among o s → Among p y
rest-outputs o s m x y p e f h = omega arith

places : (f m : ℕ) → 2 ≤ m → f + (m - 2) ≤ f + (m / 2 - 1) + (m - m / 2 - 1)
places f m h = omega arith

under-word : (f m : ℕ) → 2 ≤ m → f + m ≤ limits.variables → f + (m / 2 - 1) + (m - m / 2) ≤ limits.variables
under-word f m two h = omega arith

small-next : (f m : ℕ) {z : ℕ} → z ≡ f + (m - 2) → f + m ≤ limits.variables → m ≤ limits.word → z + 1 ≤ limits.variables + 1
small-next f m e h k = omega arith

pub returns-then-end-x : goal.returns-then-end-x
returns-then-end-x t c =
    let q = c.requires in
    ran-zero _ (c.args.end - c.args.x) (omega (arith, c.if-end-x.true)) q.first_le_x.3

pub put_tree-l-requires : goal.put_tree-l-requires
put_tree-l-requires t c =
    let q = c.requires in
    let two : 2 ≤ c.args.m = omega arith in
    (omega arith, ((omega arith, omega arith, omega arith, omega (arith, output-count-step c.args.m two)), ((omega arith, omega arith), ((q.first_le_x.0, (omega (arith, c.min.ensures)), omega arith, q.first_le_x.3), (left-longer c.args.m c.args.v c.args.o c.args.low c.args.high two c.args.most q.no_longer.0, q.no_longer.1)))))

pub returns-then-l-middle : goal.returns-then-l-middle
returns-then-l-middle t c =
    let q = c.requires in
    let two = tree_of c.args.first c.args.x c.args.end c.args.m q.first_le_x.0 c.if-end-x.false q.first_le_x.1 in
    ran-left c.args.m c.args.v c.args.o c.args.low c.args.high two c.args.first c.args.x c.args.end (c.args.o + tree_output_count (c.args.m / 2)) q.first_le_x.0 c.if-end-x.false q.first_le_x.1 refl (c.min.ensures ∙ omega arith) c.put_tree-l.ensures c.if-l-middle.true

pub overflow_add-p : goal.overflow_add-p
overflow_add-p t c =
    let q = c.requires in
    omega (arith, output-count-step c.args.m (omega arith), c.output_count.ensures ∙ within_word (c.args.m / 2) (half-word c.args.m q.le_m.1))

pub put_tree-r-requires : goal.put_tree-r-requires
put_tree-r-requires t c =
    let q = c.requires in
    let two = tree_of c.args.first c.args.x c.args.end c.args.m q.first_le_x.0 c.if-end-x.false q.first_le_x.1 in
    let p = c.args.o + c.output_count.result in
    let e = ap (λ (n : ℕ). c.args.o + n) (c.output_count.ensures ∙ within_word (c.args.m / 2) (half-word c.args.m q.le_m.1)) in
    let s = output-count-step c.args.m two in
    let r = rest-word c.args.m two q.le_m.1 in
    let k = ran-kept _ c.put_tree-l.ensures in
    (rest-falls c.args.m two c.decreases, ((r.0, r.1, rest_among c.args.v c.args.m q.le_m.2, rest-outputs c.args.o (tree_output_count c.args.m) c.args.m (tree_output_count (c.args.m / 2)) (tree_output_count (c.args.m - c.args.m / 2)) p s e q.le_m.3), ((nothing-less _, le_refl _), ((c.if-l-middle.false, le_trans (omega (arith, c.min-2.ensures)) (places c.args.first c.args.m two), under-word c.args.first c.args.m two q.first_le_x.2, k.1), (right-longer c.args.m c.args.v c.args.o c.args.low c.args.high two c.args.most p e q.no_longer.0, q.no_longer.1)))))

pub returns-then-r-last : goal.returns-then-r-last
returns-then-r-last t c =
    let q = c.requires in
    let two = tree_of c.args.first c.args.x c.args.end c.args.m q.first_le_x.0 c.if-end-x.false q.first_le_x.1 in
    let p = c.args.o + c.output_count.result in
    let e = ap (λ (n : ℕ). c.args.o + n) (c.output_count.ensures ∙ within_word (c.args.m / 2) (half-word c.args.m q.le_m.1)) in
    ran-right c.args.m c.args.v c.args.o c.args.low c.args.high two c.args.first c.args.x c.args.end p q.first_le_x.0 c.if-end-x.false q.first_le_x.1 e (c.min.ensures ∙ omega arith) c.put_tree-l.ensures c.if-l-middle.false (c.min-2.ensures ∙ omega arith) c.put_tree-r.ensures c.if-r-last.true

pub returns-then-end-last : goal.returns-then-end-last
returns-then-end-last t c =
    let q = c.requires in
    let two = tree_of c.args.first c.args.x c.args.end c.args.m q.first_le_x.0 c.if-end-x.false q.first_le_x.1 in
    let p = c.args.o + c.output_count.result in
    let e = ap (λ (n : ℕ). c.args.o + n) (c.output_count.ensures ∙ within_word (c.args.m / 2) (half-word c.args.m q.le_m.1)) in
    ran-halves c.args.m c.args.v c.args.o c.args.low c.args.high two c.args.first c.args.x c.args.end p q.first_le_x.0 c.if-end-x.false q.first_le_x.1 e (c.min.ensures ∙ omega arith) c.put_tree-l.ensures c.if-l-middle.false (c.min-2.ensures ∙ omega arith) c.put_tree-r.ensures c.if-end-last.true

pub returns-then-not-own_fits : goal.returns-then-not-own_fits
returns-then-not-own_fits t c =
    let q = c.requires in
    let two = tree_of c.args.first c.args.x c.args.end c.args.m q.first_le_x.0 c.if-end-x.false q.first_le_x.1 in
    let p = c.args.o + c.output_count.result in
    let e = ap (λ (n : ℕ). c.args.o + n) (c.output_count.ensures ∙ within_word (c.args.m / 2) (half-word c.args.m q.le_m.1)) in
    let l = does-not-fit (tree_text c.args.m c.args.v c.args.o c.args.low c.args.high (c.args.m - 2)) _ c.own_fits.ensures c.if-not-own_fits.true in
    let k = ran-kept _ c.put_tree-r.ensures in
    ran-no-own c.args.m c.args.v c.args.o c.args.low c.args.high two c.args.first c.args.x c.args.end p q.first_le_x.0 c.if-end-x.false q.first_le_x.1 e (c.min.ensures ∙ omega arith) c.put_tree-l.ensures c.if-l-middle.false (c.min-2.ensures ∙ omega arith) c.put_tree-r.ensures c.if-r-last.false c.if-end-last.false k.1 l

pub overflow_add-result : goal.overflow_add-result
overflow_add-result t c =
    let q = c.requires in
    let two = tree_of c.args.first c.args.x c.args.end c.args.m q.first_le_x.0 c.if-end-x.false q.first_le_x.1 in
    let p = c.args.o + c.output_count.result in
    let e = ap (λ (n : ℕ). c.args.o + n) (c.output_count.ensures ∙ within_word (c.args.m / 2) (half-word c.args.m q.le_m.1)) in
    let z = own-place c.args.m c.args.v c.args.o c.args.low c.args.high two c.args.first c.args.x c.args.end p q.first_le_x.0 c.if-end-x.false q.first_le_x.1 e (c.min.ensures ∙ omega arith) c.put_tree-l.ensures c.if-l-middle.false (c.min-2.ensures ∙ omega arith) c.put_tree-r.ensures c.if-r-last.false c.if-end-last.false in
    omega (arith, small-next c.args.first c.args.m z q.first_le_x.2 q.le_m.1)

pub returns : goal.returns
returns t c =
    let q = c.requires in
    let two = tree_of c.args.first c.args.x c.args.end c.args.m q.first_le_x.0 c.if-end-x.false q.first_le_x.1 in
    let p = c.args.o + c.output_count.result in
    let e = ap (λ (n : ℕ). c.args.o + n) (c.output_count.ensures ∙ within_word (c.args.m / 2) (half-word c.args.m q.le_m.1)) in
    ran-own c.args.m c.args.v c.args.o c.args.low c.args.high two c.args.first c.args.x c.args.end p q.first_le_x.0 c.if-end-x.false q.first_le_x.1 e (c.min.ensures ∙ omega arith) c.put_tree-l.ensures c.if-l-middle.false (c.min-2.ensures ∙ omega arith) c.put_tree-r.ensures c.if-r-last.false c.if-end-last.false c.put_own-n.ensures refl
