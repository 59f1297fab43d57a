-- The bytes of the listing, and what the block writer answers.
use Rattle.std.specs.Prelude.{ℕ, zero, suc, ◌+◌, ◌-◌, ◌/◌, ◌%◌, Bool, true, false, cond, ◌&&◌, List, [], ◌∷◌, ◌++◌, leb, ltb, eqb, length, drop, replicate}
use Rattle.model.specs.declared.Literal.{Literal}
use Rattle.model.specs.declared.Literal.TheVariants.{Pos, Neg}
use Rattle.model.specs.declared.Model.{Model}
use Rattle.model.specs.declared.Written.{Written}
use Rattle.model.specs.declared.Written.TheVariants.{Bytes, Refused}
use Rattle.std.specs.List.{list_any, flat_map}
use Rattle.model.specs.Lists.{range, is_empty, stop}
use Rattle.model.specs.Propagate.{unsettled_or}
use Rattle.model.specs.Cnf.{variable_count, node_blocks, block_count, clause_count, block_clauses}

-- ---- numbers

-- the last digits of v, at most `places` of them
unfoldable pub digits : ℕ → ℕ → List ℕ
digits zero v = []
digits (suc places) v = elim (ltb v 10) [ true ↦ (48 + v) ∷ [] | false ↦ digits places (v / 10) ++ ((48 + v % 10) ∷ []) ]

unfoldable pub decimal : ℕ → List ℕ
decimal v = digits (suc v) v

-- "each 4 columns wide: spaces, then a decimal number without needless leading zero, right-justified"; nothing for a number that has more digits
unfoldable pub field_text : ℕ → List ℕ
field_text v = cond (leb (length (decimal v)) 4) (replicate (4 - length (decimal v)) 32 ++ decimal v) []

-- ---- "A clause is its literals (minus sign for negation) each followed by one space, then `0` and byte 10."

unfoldable pub literal_text : Literal → List ℕ
literal_text (Pos v) = decimal v ++ (32 ∷ [])
literal_text (Neg v) = 45 ∷ decimal v ++ (32 ∷ [])

unfoldable pub clause_text : List Literal → List ℕ
clause_text c = flat_map literal_text c ++ (48 ∷ 10 ∷ [])

-- ---- "Block 0 is `p cnf V C` and byte 10"

unfoldable pub header_text : Model → List ℕ
header_text m =
    (112 ∷ 32 ∷ 99 ∷ 110 ∷ 102 ∷ 32 ∷ [])
    ++ decimal (variable_count m) ++ (32 ∷ [])
    ++ decimal (clause_count m) ++ (10 ∷ [])

unfoldable pub block_text : Model → ℕ → List ℕ
block_text m b =
    let header = header_text m in
    let body = flat_map clause_text (block_clauses m b) in
    cond (eqb b 0) header body

-- "The listing is all its blocks, from 0 up."
unfoldable pub listing : Model → List ℕ
listing m = flat_map (block_text m) (range 0 (block_count m + 1))

-- ---- the block writer, for a buffer of `room` bytes: "block 20, 22, 23, 29, 24"

-- "29 a line clause without literals"
unfoldable pub has_empty_clause : Model → ℕ → Bool
has_empty_clause m b = ltb (length (node_blocks m)) b && list_any is_empty (block_clauses m b)

unfoldable pub block_refusal : Model → ℕ → ℕ → ℕ
block_refusal m b room =
    unsettled_or m
    (stop (ltb (block_count m) b) 23
    (stop (has_empty_clause m b) 29
    (stop (ltb room (length (block_text m b))) 24 0)))

-- "A written block returns its length"
unfoldable pub written_block : Model → ℕ → ℕ → Written
written_block m b room = cond (eqb (block_refusal m b room) 0) (Bytes (length (block_text m b))) (Refused (block_refusal m b room))

-- "and bytes past the text are unchanged"; a refused block leaves all of them
unfoldable pub block_buffer : Model → ℕ → List ℕ → List ℕ
block_buffer m b buf =
    cond (eqb (block_refusal m b (length buf)) 0) (block_text m b ++ drop (length (block_text m b)) buf) buf

-- document 01's number and value for each case of the answer
abbrev pub written_refusal : Written → ℕ
written_refusal (Bytes k) = 0
written_refusal (Refused r) = r

abbrev pub written_length : Written → ℕ
written_length (Bytes k) = k
written_length (Refused r) = 0
