-- A run of blocks, for a listing that is written with few calls: blocks b, b + 1, .. while none is refused. Assumes nothing.
use Rattle.std.specs.Prelude.{ℕ, zero, suc, ◌+◌, ◌-◌, ◌≤◌, ◌<◌, ◌≡◌, true, false, List, [], ◌∷◌, ◌++◌, eqb, leb, length, drop, take}
use Rattle.model.specs.declared.Model.{Model}
use Rattle.std.specs.List.{flat_map}
use Rattle.model.specs.Lists.{range}
use Rattle.model.specs.Cnf.{block_count}
use Rattle.model.specs.Text.{block_text, block_refusal, listing}
use Rattle.correctness.specs.Demand3.{Listing}
use Rattle.text.specs.Put.{Wrote}
use Rattle.cnf.specs.declared.Run.{Run}

-- how many of the k blocks from b on are written where `room` bytes are left: the block writer refuses none of them there
unfoldable pub run_count : ℕ → Model → ℕ → ℕ → ℕ
run_count zero m b room = 0
run_count (suc k) m b room =
    elim (eqb (block_refusal m b room) 0) [ true ↦ suc (run_count k m (suc b) (room - length (block_text m b))) | false ↦ 0 ]

-- ---- texts f x, f (x + 1), .. that are written one after the other while each fits

-- how many of k where `room` bytes are left
unfoldable pub fit_count : (ℕ → List ℕ) → ℕ → ℕ → ℕ → ℕ
fit_count f zero x room = 0
fit_count f (suc k) x room =
    elim (leb (length (f x)) room) [ true ↦ suc (fit_count f k (suc x) (room - length (f x))) | false ↦ 0 ]

-- they were written at `at`; `next` is the first that was not, and r the place after them
pub record Ran (f : ℕ → List ℕ) (k x at : ℕ) (before after : List ℕ) (n r : ℕ) : Type 0 where
  pub next : n ≡ x + fit_count f k x (length before - at)
  pub wrote : Wrote (flat_map f (range x (fit_count f k x (length before - at)))) at before after r

-- ---- a run up to block `end`

unfoldable pub length_to : Model → ℕ → ℕ → ℕ → ℕ
length_to m b end room = run_count (end + 1 - b) m b room

unfoldable pub text_to : Model → ℕ → ℕ → ℕ → List ℕ
text_to m b end room = flat_map (block_text m) (range b (length_to m b end room))

-- refused as its first block would be
unfoldable pub run_to : Model → ℕ → ℕ → ℕ → Run
run_to m b end room = record { refusal = block_refusal m b room; next = b + length_to m b end room; length = length (text_to m b end room) }

-- "bytes past the text are unchanged"
unfoldable pub buffer_to : Model → ℕ → ℕ → List ℕ → List ℕ
buffer_to m b end buf = text_to m b end (length buf) ++ drop (length (text_to m b end (length buf))) buf

-- ---- a run to the last block

abbrev pub run_length : Model → ℕ → ℕ → ℕ
run_length m b room = length_to m b (block_count m) room

unfoldable pub run_text : Model → ℕ → ℕ → List ℕ
run_text m b room = text_to m b (block_count m) room

unfoldable pub run_of : Model → ℕ → ℕ → Run
run_of m b room = run_to m b (block_count m) room

unfoldable pub run_buffer : Model → ℕ → List ℕ → List ℕ
run_buffer m b buf = buffer_to m b (block_count m) buf

-- what a run that is not refused promises of demand 3: its text is the listing's, between the blocks before it and those after it, and all sentences of a listing hold
pub record ListedRun (m : Model) (b : ℕ) (r : Run) (buffer : List ℕ) : Type 0 where
  pub moves : b < r.next
  pub ends : r.next ≤ block_count m + 1
  pub text : take r.length buffer ≡ flat_map (block_text m) (range b (r.next - b))
  pub part : listing m ≡ flat_map (block_text m) (range 0 b) ++ take r.length buffer ++ flat_map (block_text m) (range r.next (block_count m + 1 - r.next))
  pub listed : Listing m

-- ---- runs one after the other, each from where the last stopped, in buffers of these lengths

-- what they write
unfoldable pub runs_text : Model → ℕ → List ℕ → List ℕ
runs_text m b [] = []
runs_text m b (room ∷ rooms) = run_text m b room ++ runs_text m (run_of m b room).next rooms

-- where they stop
unfoldable pub block_after : Model → ℕ → List ℕ → ℕ
block_after m b [] = b
block_after m b (room ∷ rooms) = block_after m (run_of m b room).next rooms
