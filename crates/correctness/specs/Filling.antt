-- What filling and closing are to each other, request 2 of document 02, for every model, words and values. A field for each sentence.
-- It names only the definitions that the two contracts name: fill_refusal and filled_values, closed.
use Rattle.std.specs.Prelude.{◌≡◌, ℕ, ◌-◌, Bool, true, List, ◌++◌, T, length, take, replicate}
use Rattle.model.specs.declared.Model.{Model}
use Rattle.model.specs.declared.Reading.{Reading}
use Rattle.std.specs.List.{list_all}
use Rattle.model.specs.Limits.{limits}
use Rattle.model.specs.Assignment.{is_said}
use Rattle.model.specs.Close.{groups_by, assignment_of, closed}
use Rattle.model.specs.Fill.{fill_refusal, filled_values}
use Rattle.model.specs.Demand.{is_satisfying}

-- "the closing 0 taken as read"
unfoldable pub closed_reading : Reading
closed_reading = record { closed = true }

-- the values of a filling that is not refused
pub record Filled (m : Model) (d values : List ℕ) : Type 0 where
  -- each is 1 or 2
  pub said : T (list_all is_said (filled_values m d values))
  -- "the one satisfying assignment": it satisfies, it reads back as the groups, those past s ignored, and no other does both
  pub satisfying : T (is_satisfying m (assignment_of (filled_values m d values)))
  pub reads-back : groups_by m (assignment_of (filled_values m d values)) ≡ take m.s d
  pub one : (a : List Bool) → T (is_satisfying m a) → groups_by m a ≡ take m.s d → a ≡ assignment_of (filled_values m d values)
  -- "Closing on those marks, the closing 0 taken as read, gives the same groups again, zero past s"
  pub closes : closed m closed_reading (filled_values m d values) ≡ record { refusal = 0; groups = take m.s d ++ replicate (limits.groups - m.s) 0 }

-- "after a closing that is not refused, filling with its groups gives the same marks", whatever stood in the values before
pub record Refilled (m : Model) (r : Reading) (values before : List ℕ) : Type 0 where
  pub taken : fill_refusal m (closed m r values).groups before ≡ 0
  pub same : filled_values m (closed m r values).groups before ≡ values

pub record RoundTrips (m : Model) : Type 0 where
  pub fills : (d values : List ℕ) → fill_refusal m d values ≡ 0 → Filled m d values
  -- where the groups are refused, no satisfying assignment reads back as them
  pub none : (d values : List ℕ) → fill_refusal m d values ≡ 30 → (a : List Bool) → T (is_satisfying m a) → groups_by m a ≡ take m.s d → ⊥
  pub refills : (r : Reading) (values : List ℕ) → (closed m r values).refusal ≡ 0 → (before : List ℕ) → length before ≡ length values
      → Refilled m r values before
