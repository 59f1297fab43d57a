-- What the exported functions answer, each as one number, and what they leave in the slices lent to them.
use Rattle.std.specs.Prelude.{ℕ, ◌*◌, cond, not, ◌&&◌, List, ◌++◌, ltb, eqb, length, drop}
use Rattle.model.specs.declared.Propagated.{Propagated}
use Rattle.model.specs.declared.Written.{Written}
use Rattle.model.specs.declared.Written.TheVariants.{Refused}
use Rattle.model.specs.declared.Reading.{Reading}
use Rattle.model.specs.declared.Closed.{Closed}
use Rattle.model.specs.declared.Combined.{Combined}
use Rattle.std.specs.List.{flat_map}
use Rattle.model.specs.Model.{table_of, in_range}
use Rattle.model.specs.Sheet.{read_sheet}
use Rattle.model.specs.Propagate.{propagated, refused_propagation}
use Rattle.model.specs.Cnf.{block_count}
use Rattle.model.specs.Text.{written_block, block_buffer}
use Rattle.model.specs.SheetText.{written_sheet, sheet_buffer}
use Rattle.model.specs.Assignment.{line_read}
use Rattle.model.specs.Close.{closed}
use Rattle.model.specs.Fill.{fill_refusal, filled_values}
use Rattle.model.specs.Combine.{combined}
use Rattle.cnf.specs.declared.Run.{Run}
use Rattle.cnf.specs.Run.{run_of, run_buffer}
use Rattle.words.specs.Words.{model_from}
use Rattle.packing.specs.Packing.{numbered, written_number, run_number, line_number, group_words, model_size, model_laid, no_groups, fitted_closing, groups_after}

-- ---- reading

unfoldable pub draw_read : List ℕ → ℕ
draw_read sheet = numbered (read_sheet sheet).refusal (read_sheet sheet).line

-- ---- settling

-- the answer for a slice of so many words: one without room for the table is 24
unfoldable pub fitted : ℕ → Propagated → Propagated
fitted room p = cond (eqb p.refusal 0 && ltb room (4 * p.model.s)) (refused_propagation 24 p.model) p

abbrev pub settle_number : Propagated → ℕ
settle_number p = numbered p.refusal p.passes

-- the table's words at the front; a refusal leaves the slice
abbrev pub table_after : Propagated → List ℕ → List ℕ
table_after p table = cond (eqb p.refusal 0) (flat_map group_words (table_of p.model) ++ drop (4 * p.model.s) table) table

-- the sheet's model settled, or the refusal of the reader or of propagation
unfoldable pub settled_sheet : List ℕ → Propagated
settled_sheet sheet =
    let r = read_sheet sheet in
    cond (eqb r.refusal 0) (propagated r.model) (refused_propagation r.refusal r.model)

unfoldable pub draw_settle : List ℕ → ℕ → ℕ
draw_settle sheet room = settle_number (fitted room (settled_sheet sheet))

unfoldable pub draw_table : List ℕ → List ℕ → List ℕ
draw_table sheet table = table_after (fitted (length table) (settled_sheet sheet)) table

-- the same of a model
unfoldable pub model_settle : List ℕ → ℕ → ℕ
model_settle words room = settle_number (fitted room (propagated (model_from words)))

unfoldable pub model_table : List ℕ → List ℕ → List ℕ
model_table words table = table_after (fitted (length table) (propagated (model_from words))) table

-- ---- a block of the settled sheet

unfoldable pub sheet_block : List ℕ → ℕ → ℕ → Written
sheet_block sheet block room =
    let p = settled_sheet sheet in
    cond (eqb p.refusal 0) (written_block p.model block room) (Refused p.refusal)

unfoldable pub draw_block : List ℕ → ℕ → ℕ → ℕ
draw_block sheet block room = written_number (sheet_block sheet block room)

unfoldable pub draw_buffer : List ℕ → ℕ → List ℕ → List ℕ
draw_buffer sheet block buffer =
    let p = settled_sheet sheet in
    cond (eqb p.refusal 0) (block_buffer p.model block buffer) buffer

-- and of a model
unfoldable pub model_block : List ℕ → ℕ → ℕ → ℕ
model_block words block room = written_number (written_block (model_from words) block room)

-- the number of the last block of the settled sheet
unfoldable pub draw_block_count : List ℕ → ℕ
draw_block_count sheet =
    let p = settled_sheet sheet in
    numbered p.refusal (cond (eqb p.refusal 0) (block_count p.model) 0)

-- and of a model, 0 where it is out of range
unfoldable pub model_block_count : List ℕ → ℕ
model_block_count words = cond (in_range (model_from words)) (block_count (model_from words)) 0

-- a model's sheet
unfoldable pub model_sheet : List ℕ → ℕ → ℕ
model_sheet words room = written_number (written_sheet (model_from words) room)

-- ---- a run of blocks of the settled sheet

unfoldable pub sheet_run : List ℕ → ℕ → ℕ → Run
sheet_run sheet block room =
    let p = settled_sheet sheet in
    cond (eqb p.refusal 0) (run_of p.model block room) (record { refusal = p.refusal; next = block; length = 0 })

unfoldable pub draw_blocks : List ℕ → ℕ → ℕ → ℕ
draw_blocks sheet block room = let r = sheet_run sheet block room in run_number r.refusal r.next r.length

unfoldable pub draw_run : List ℕ → ℕ → List ℕ → List ℕ
draw_run sheet block buffer =
    let p = settled_sheet sheet in
    cond (eqb p.refusal 0) (run_buffer p.model block buffer) buffer

-- ---- a solver line

-- any number but 0 is a closed reading
abbrev pub reading_of : ℕ → Reading
reading_of closed = record { closed = not (eqb closed 0) }

unfoldable pub draw_line : ℕ → List ℕ → List ℕ → ℕ
draw_line closed line values = let r = line_read (reading_of closed) line values in line_number r.refusal r.reading.closed

-- ---- closing on the settled sheet

unfoldable pub closed_sheet : List ℕ → ℕ → List ℕ → Closed
closed_sheet sheet flag values =
    let p = settled_sheet sheet in
    cond (eqb p.refusal 0) (closed p.model (reading_of flag) values) (no_groups p.refusal)

unfoldable pub draw_close : List ℕ → ℕ → List ℕ → ℕ → ℕ
draw_close sheet flag values room = (fitted_closing room (closed_sheet sheet flag values)).refusal

unfoldable pub draw_groups : List ℕ → ℕ → List ℕ → List ℕ → List ℕ
draw_groups sheet flag values groups = groups_after (fitted_closing (length groups) (closed_sheet sheet flag values)) groups

-- the same of a model
unfoldable pub model_close : List ℕ → ℕ → List ℕ → ℕ → ℕ
model_close words flag values room = (fitted_closing room (closed (model_from words) (reading_of flag) values)).refusal

unfoldable pub model_groups : List ℕ → ℕ → List ℕ → List ℕ → List ℕ
model_groups words flag values groups = groups_after (fitted_closing (length groups) (closed (model_from words) (reading_of flag) values)) groups

-- ---- filling on the settled sheet, from as many words as are lent: fewer than s are no draw, 30

unfoldable pub draw_fill : List ℕ → List ℕ → List ℕ → ℕ
draw_fill sheet groups values =
    let p = settled_sheet sheet in
    cond (eqb p.refusal 0) (fill_refusal p.model groups values) p.refusal

unfoldable pub draw_values : List ℕ → List ℕ → List ℕ → List ℕ
draw_values sheet groups values =
    let p = settled_sheet sheet in
    cond (eqb p.refusal 0) (filled_values p.model groups values) values

-- ---- combining two sheets, answered as a sheet is written: the first's refusal, the second's, then combining's

unfoldable pub combined_sheets : List ℕ → List ℕ → Combined
combined_sheets first second =
    let a = read_sheet first in
    let b = read_sheet second in
    cond (eqb a.refusal 0)
    (cond (eqb b.refusal 0) (combined a.model b.model) (record { refusal = b.refusal; model = b.model }))
    (record { refusal = a.refusal; model = a.model })

unfoldable pub draw_combine : List ℕ → List ℕ → ℕ → ℕ
draw_combine first second room =
    let r = combined_sheets first second in
    written_number (cond (eqb r.refusal 0) (written_sheet r.model room) (Refused r.refusal))

unfoldable pub draw_combined : List ℕ → List ℕ → List ℕ → List ℕ
draw_combined first second buffer =
    let r = combined_sheets first second in
    cond (eqb r.refusal 0) (sheet_buffer r.model buffer) buffer

-- and two models: the refusal, or the combined model's words; a slice without room for them is 24
unfoldable pub model_combine : List ℕ → List ℕ → ℕ → ℕ
model_combine first second room =
    let r = combined (model_from first) (model_from second) in
    cond (eqb r.refusal 0 && ltb room model_size) 24 r.refusal

unfoldable pub model_combined : List ℕ → List ℕ → List ℕ → List ℕ
model_combined first second words =
    let r = combined (model_from first) (model_from second) in
    cond (eqb r.refusal 0) (model_laid r.model words) words
