-- How many clauses a tree has, by halves. Assumes nothing.
use mathlib.Core.Path.{◌≡◌, refl}
use Prim.Native.Nat.{ℕ, zero, suc, ◌+◌, ◌-◌, ◌*◌, ◌/◌, ◌≤◌, ◌<◌}
use native.Mathlib.Nat.{mul-le-mul}
use native.Mathlib.Omega.{arith}
use Rattle.model.specs.Limits.{limits}
use Rattle.model.specs.Totalizer.{clause_count_in, tree_clause_count}
use Rattle.encoding_laws.proofs.Counts.{clause-count-step}
use Rattle.encoding_laws.proofs.Bounds.{clauses_mono}

-- ---- a node's

pub node-some : (a b : ℕ) → 1 ≤ (a + 1) * (b + 1)
node-some a b =
    let p : 1 ≤ a + 1 = omega arith in
    let q : 1 ≤ b + 1 = omega arith in
    let h : 1 * 1 ≤ (a + 1) * (b + 1) = mul-le-mul p q in
    omega (arith, h)

pub node-few : (a b : ℕ) → a ≤ limits.word → b ≤ limits.word → (a + 1) * (b + 1) ≤ 5000
node-few a b p q =
    let i : a + 1 ≤ limits.word + 1 = omega arith in
    let j : b + 1 ≤ limits.word + 1 = omega arith in
    let h : (a + 1) * (b + 1) ≤ (limits.word + 1) * (limits.word + 1) = mul-le-mul i j in
    omega (arith, h)

-- ---- a tree's

-- a leaf, and two
pub clauses-first : (m : ℕ) → m < 2 → (0 ≡ tree_clause_count m) × (6 * m ≡ tree_clause_count (m + 1))
unfolding tree_clause_count clause_count_in
clauses-first zero h = (refl, refl)
clauses-first (suc zero) h = (refl, refl)
clauses-first (suc (suc m)) h = absurd (omega arith)

-- the step, of halves by their names
halves : (n a b : ℕ) → 2 ≤ n → n / 2 ≡ a → n - n / 2 ≡ b → tree_clause_count n ≡ tree_clause_count a + tree_clause_count b + (2 * ((a + 1) * (b + 1)) - 2)
halves n a b h p q = rw (← q, ← p) (omega (arith, clause-count-step n h, node-some (n / 2) (n - n / 2)))

-- the halves of m and of m + 1: x and y are counted of m / 2 and of one more, p of the node over both
module _ (m : ℕ) (h : 2 ≤ m) {x y p q : ℕ} (ex : x ≡ tree_clause_count (m / 2)) (ey : y ≡ tree_clause_count (m / 2 + 1))
    (ep : p ≡ 2 * ((m / 2 + 1) * (m / 2 + 1 + 1)) - 2) where
  pub clauses-even : m ≤ m / 2 + m / 2 → q ≡ 2 * ((m / 2 + 1) * (m / 2 + 1)) - 2
      → (x + x + q ≡ tree_clause_count m) × (x + y + p ≡ tree_clause_count (m + 1))
  clauses-even k e = (
    omega (arith, halves m (m / 2) (m / 2) h refl (omega arith)),
    omega (arith, halves (m + 1) (m / 2) (m / 2 + 1) (omega arith) (omega arith) (omega arith)),
  )

  pub clauses-odd : m / 2 + m / 2 < m → q ≡ 2 * ((m / 2 + 1 + 1) * (m / 2 + 1 + 1)) - 2
      → (x + y + p ≡ tree_clause_count m) × (y + y + q ≡ tree_clause_count (m + 1))
  clauses-odd k e = (
    omega (arith, halves m (m / 2) (m / 2 + 1) h refl (omega arith)),
    omega (arith, halves (m + 1) (m / 2 + 1) (m / 2 + 1) (omega arith) (omega arith) (omega arith)),
  )

-- and they are few
pub clauses-few-more : (m : ℕ) → m ≤ limits.word → (tree_clause_count m ≤ 5000) × (tree_clause_count (m + 1) ≤ 5000)
clauses-few-more m h = (omega (arith, clauses_mono m (suc limits.word) (omega arith), most), omega (arith, clauses_mono (m + 1) (suc limits.word) (omega arith), most))
  where
    most : tree_clause_count (suc limits.word) ≤ 5000
    most = unfold tree_clause_count clause_count_in in omega arith
