-- What each step of the checker that has no loop answers, and what it leaves in the arrays lent to it. A refused step leaves them.
use Rattle.std.specs.Prelude.{ℕ, zero, ◌+◌, ◌-◌, ◌%◌, ◌^◌, true, false, cond, not, List, length, ◌==◌, nat_le, nat_lt, slice_index, slice_index_or, slice_set}
use Rattle.std.specs.Prelude.{Option, None, Some}
use Rattle.model.specs.Lists.{stop}
use Rattle.refutation.specs.declared.Reason.{Reason}
use Rattle.refutation.specs.declared.Reason.TheVariants.{StoreFull, NumberTooLarge, NoSuchVariable, NoSuchClause, HintNotUnit, NotImplied, TooManyLines, Format, ValueTooLarge, NegativeHint, NoRoomForABlock, EndsEarly, Other}
use Rattle.refutation.specs.declared.State.{State}

-- ---- a reason's number

abbrev pub reason_number : Reason → ℕ
reason_number StoreFull = 1
reason_number NumberTooLarge = 2
reason_number NoSuchVariable = 3
reason_number NoSuchClause = 4
reason_number HintNotUnit = 5
reason_number NotImplied = 6
reason_number TooManyLines = 7
reason_number Format = 8
reason_number ValueTooLarge = 9
reason_number NegativeHint = 10
reason_number NoRoomForABlock = 11
reason_number EndsEarly = 12
reason_number (Other n) = n

-- what a state keeps of it: by the number 0 nothing is refused
abbrev pub refusal_for : Reason → Option Reason
refusal_for (Other zero) = None
refusal_for why = Some why

-- ---- the first state, and a refused one

unfoldable pub first_state : State
first_state = record { refusal = None; refuted = false; proved = false; id = 0; top = 1; at = 3; stamp = 1; dead = 0 }

unfoldable pub refused_for : State → Reason → State
refused_for s why = record {
  refusal = refusal_for why;
  refuted = s.refuted;
  proved = s.proved;
  id = s.id;
  top = s.top;
  at = s.at;
  stamp = s.stamp;
  dead = s.dead;
}

-- ---- a word more of the clause begun

unfoldable pub put_refusal : State → List ℕ → List ℕ → ℕ → Option Reason
put_refusal s store marks w = cond (nat_le (length store) s.at) (Some StoreFull) (cond (nat_le (length marks) w) (Some NoSuchVariable) None)

unfoldable pub longer : State → State
longer s = record {
  refusal = s.refusal;
  refuted = s.refuted;
  proved = s.proved;
  id = s.id;
  top = s.top;
  at = s.at + 1;
  stamp = s.stamp;
  dead = s.dead;
}

-- what a step that is refused leaves, and what another makes
abbrev pub unless : {A : Type 0} → Option Reason → (Reason → A) → A → A
unless None refused made = made
unless (Some why) refused made = refused why

unfoldable pub after_put : State → List ℕ → List ℕ → ℕ → State
after_put s store marks w = unless (put_refusal s store marks w) (refused_for s) (longer s)

unfoldable pub store_after_put : State → List ℕ → List ℕ → ℕ → List ℕ
store_after_put s store marks w = unless (put_refusal s store marks w) (λ why. store) (slice_set store s.at w)

unfoldable pub marks_after_put : State → List ℕ → List ℕ → ℕ → List ℕ
marks_after_put s store marks w = unless (put_refusal s store marks w) (λ why. marks) (slice_set marks w s.stamp)

-- ---- the clause begun is stored

unfoldable pub commit_refusal : State → List ℕ → List ℕ → Option Reason
commit_refusal s store index =
    cond (not s.proved) (Some NotImplied)
    (cond (nat_le (length index) s.id) (Some NumberTooLarge)
    (cond (nat_lt (length store) s.at) (Some StoreFull)
    (cond (nat_le 4294967290 s.at) (Some StoreFull)
    (cond (nat_lt s.at 2) (Some StoreFull)
    (cond (nat_lt (s.at - 2) s.top) (Some StoreFull)
    (cond (nat_le 4294967295 s.stamp) (Some TooManyLines) None))))))

-- how many words it has
unfoldable pub begun_size : State → ℕ
begun_size s = s.at - 2 - s.top

unfoldable pub committed : State → State
committed s = record {
  refusal = s.refusal;
  refuted = (begun_size s == 0);
  proved = false;
  id = 0;
  top = s.at;
  at = s.at + 2;
  stamp = s.stamp + 1;
  dead = s.dead;
}

unfoldable pub after_commit : State → List ℕ → List ℕ → State
after_commit s store index = unless (commit_refusal s store index) (refused_for s) (committed s)

unfoldable pub store_after_commit : State → List ℕ → List ℕ → List ℕ
store_after_commit s store index = unless (commit_refusal s store index) (λ why. store) (slice_set (slice_set store s.top s.id) (s.top + 1) (begun_size s))

unfoldable pub index_after_commit : State → List ℕ → List ℕ → List ℕ
index_after_commit s store index = unless (commit_refusal s store index) (λ why. index) (slice_set index s.id s.top)

-- a clause of the formula needs no hint
unfoldable pub given : State → ℕ → State
given s id = record {
  refusal = s.refusal;
  refuted = s.refuted;
  proved = true;
  id = id;
  top = s.top;
  at = s.at;
  stamp = s.stamp;
  dead = s.dead;
}

-- ---- a clause is forgotten

-- the places of the clause at c, none where no clause can stand there
unfoldable pub places_at : List ℕ → ℕ → ℕ
places_at store c =
    let n = slice_index_or store (c + 1) 0 in
    stop (c == 0) 0
    (stop (nat_lt (length store) 2) 0
    (stop (nat_lt (length store - 2) c) 0
    (stop (nat_lt (length store - 2) n) 0 (n + 2))))

unfoldable pub forgetting : State → List ℕ → List ℕ → ℕ → State
forgetting s store index id = record {
  refusal = s.refusal;
  refuted = s.refuted;
  proved = s.proved;
  id = s.id;
  top = s.top;
  at = s.at;
  stamp = s.stamp;
  dead = (s.dead + places_at store (slice_index index id)) % 2 ^ 64;
}

unfoldable pub after_forget : State → List ℕ → List ℕ → ℕ → State
after_forget s store index id = cond (nat_le (length index) id) (refused_for s NoSuchClause) (forgetting s store index id)

-- a number past the index leaves it
unfoldable pub index_after_forget : List ℕ → ℕ → List ℕ
index_after_forget index id = slice_set index id 0
