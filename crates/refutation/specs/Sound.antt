-- What a state of the checker keeps, for one assignment: every stored clause is true, and so is the clause begun once it is implied.
use Rattle.std.specs.Prelude.{None, ◌≡◌, ℕ, zero, suc, ◌+◌, ◌-◌, ◌/◌, ◌%◌, ◌<◌, ◌≤◌, Bool, true, false, cond, not, ◌||◌, T, List, length, ◌==◌, slice_index, slice_index_or}
use Rattle.model.specs.Close.{truth}
use Rattle.refutation.specs.declared.Found.{Found}
use Rattle.refutation.specs.declared.Found.TheVariants.{Nothing, Conflict, Forces}
use Rattle.refutation.specs.declared.State.{State}

-- ---- literals as words: 2v for variable v, 2v + 1 for its negation

unfoldable pub word_true : List Bool → ℕ → Bool
word_true a w = cond (w % 2 == 0) (truth a (w / 2)) (not (truth a (w / 2)))

unfoldable pub flipped : ℕ → ℕ
flipped w = cond (w % 2 == 0) (w + 1) (w - 1)

-- ---- clauses in the store, one after the other: the number, the length, the words

-- one of n words is true, from place b on
abbrev pub some_true : List Bool → List ℕ → ℕ → ℕ → Bool
some_true a store b zero = false
some_true a store b (suc n) = word_true a (slice_index store b) || some_true a store (suc b) n

unfoldable pub stored_true : List Bool → List ℕ → ℕ → Bool
stored_true a store c = some_true a store (c + 2) (slice_index store (c + 1))

-- the place after the clause at c
unfoldable pub after_clause : List ℕ → ℕ → ℕ
after_clause store c = c + 2 + slice_index store (c + 1)

-- the place after k clauses, the first one at c
abbrev pub after_clauses : List ℕ → ℕ → ℕ → ℕ
after_clauses store zero c = c
after_clauses store (suc k) c = after_clauses store k (after_clause store c)

-- clause after clause, place c is reached from place b
pub record Reached (store : List ℕ) (b c : ℕ) : Type 0 where
  pub count : ℕ
  pub there : after_clauses store count b ≡ c

-- a true clause with number i stands at c, among those from place b to place e
pub record Stored (a : List Bool) (store : List ℕ) (b e i c : ℕ) : Type 0 where
  pub reached : Reached store b c
  pub inside : after_clause store c ≤ e
  pub named : slice_index_or store c 0 ≡ i
  pub true : T (stored_true a store c)

-- ---- the clause begun, from the first free place on

unfoldable pub begun_true : List Bool → ℕ → ℕ → List ℕ → Bool
begun_true a top at store = some_true a store (top + 2) (at - (top + 2))

-- every word marked in this line is false
pub record Falsified (a : List Bool) (marks : List ℕ) (stamp : ℕ) : Type 0 where
  pub off : (w : ℕ) → w < length marks → slice_index marks w ≡ stamp → word_true a w ≡ false

-- what a true clause says where every marked word is false
abbrev pub Says : List Bool → Found → Type 0
Says a Nothing = Unit {0}
Says a Conflict = ⊥
Says a (Forces w) = T (word_true a w)

pub record Kept (a : List Bool) (top at stamp : ℕ) (proved refuted : Bool) (store index marks : List ℕ) : Type 0 where
  pub stored : (i : ℕ) → 0 < slice_index index i → Stored a store 1 top i (slice_index index i)
  pub last : Reached store 1 top
  pub place : top + 2 ≤ at
  pub fresh : (w : ℕ) → slice_index marks w ≤ stamp
  pub marked : begun_true a top at store ≡ false → Falsified a marks stamp
  pub implied : proved ≡ true → T (begun_true a top at store)
  pub unrefuted : refuted ≡ true → ⊥

abbrev pub Holds : List Bool → State → List ℕ → List ℕ → List ℕ → Type 0
Holds a s store index marks = Kept a s.top s.at s.stamp s.proved s.refuted store index marks

-- what holds before a step holds after it, for every assignment
pub record Keeps (s : State) (store index marks : List ℕ) (s' : State) (store' index' marks' : List ℕ) : Type 0 where
  pub keeps : (a : List Bool) → Holds a s store index marks → Holds a s' store' index' marks'

-- a word more of the clause begun
pub record Appended (s : State) (store : List ℕ) (s' : State) (store' : List ℕ) (w : ℕ) : Type 0 where
  pub taken : s.refusal ≡ None
  pub more : (a : List Bool) → s.top + 2 ≤ s.at → begun_true a s'.top s'.at store' ≡ (begun_true a s.top s.at store || word_true a w)

-- another clause is begun, without a word
pub record Begun (s s' : State) (store' : List ℕ) : Type 0 where
  pub taken : s.refusal ≡ None
  pub none : (a : List Bool) → begun_true a s'.top s'.at store' ≡ false
