-- The refusals of reading and settling decide which case of a definition is answered. Assumes nothing.
use mathlib.Core.Path.{◌≡◌, refl, sym, ap, ◌∙◌, subst}
use mathlib.Core.Bool.{Bool, true, false, cond}
use mathlib.Core.List.{List}
use Prim.Native.Nat.{ℕ, ◌*◌, ◌≤◌}
use native.Mathlib.Omega.{arith}
use borrow.Author.Tests.{ne_eqb, eqb-true, eqb-false, lt-ltb, le-ltb, le-leb, leb-true, leb-false}
use lib.Dec.{T, eqb, ltb, leb}
use lib.ListN.{length}
use Rattle.model.specs.declared.Group.{Group}
use Rattle.model.specs.declared.Model.{Model}
use Rattle.model.specs.declared.SheetRead.{SheetRead}
use Rattle.model.specs.declared.Propagated.{Propagated}
use Rattle.model.specs.declared.Written.TheVariants.{Refused}
use Rattle.model.specs.Limits.{limits}
use Rattle.model.specs.Model.{table_of, with_table, in_range}
use Rattle.model.specs.Sheet.{read_sheet}
use Rattle.model.specs.Propagate.{Outcome, contradiction, fixpoint, outcome, refused_propagation, propagated_as, propagated}
use Rattle.model.specs.Cnf.{block_count}
use Rattle.model.specs.Text.{written_block, block_buffer}
use Rattle.model.specs.Close.{closed}
use Rattle.model.specs.Fill.{fill_refusal, filled_values}
use Rattle.model.proofs.Lists.{T_true, true-T}
use Rattle.propagation_laws.proofs.Ranges.{in_range_lem}
use Rattle.propagation_laws.proofs.Sheets.{accepted_of, sheet_propagation}
use Rattle.cnf.specs.declared.Run.{Run}
use Rattle.cnf.specs.Run.{run_of, run_buffer}
use Rattle.packing.specs.Packing.{numbered, written_number, run_number, no_groups, has_room, groups_laid}
use Rattle.exports.specs.Draw.{settled_sheet, fitted, settle_number, table_after, sheet_block, draw_block, draw_buffer, draw_block_count, sheet_run, draw_blocks, draw_run, reading_of, closed_sheet, draw_fill, draw_values}

-- ---- the reader's refusal comes first

module _ (b : List ℕ) (r : SheetRead) (e : r ≡ read_sheet b) where
  pub unread : (r.refusal ≡ 0 → ⊥) → record { refusal = r.refusal; passes = 0; model = r.model } ≡ settled_sheet b
  unfolding settled_sheet refused_propagation
  unread h = rw (← e, ne_eqb r.refusal 0 h)

  pub read : r.refusal ≡ 0 → propagated r.model ≡ settled_sheet b
  unfolding settled_sheet
  read z = rw (← e, z)

-- ---- a settled model has no more groups than a sheet

pub few-propagated : (m : Model) → (propagated m).refusal ≡ 0 → (propagated m).model.s ≤ limits.groups
unfolding propagated refused_propagation with_table
few-propagated m = go (in_range m) refl (outcome m)
  where
    go : (x : Bool) → in_range m ≡ x → (o : Outcome (List Group))
        → (cond x (propagated_as m o) (refused_propagation 20 m)).refusal ≡ 0 → (cond x (propagated_as m o) (refused_propagation 20 m)).model.s ≤ limits.groups
    go false q o z = absurd (omega arith)
    go true q contradiction z = absurd (omega arith)
    go true q (fixpoint k t) z = (in_range_lem m (true-T (in_range m) q)).group_count

pub few-settled : (b : List ℕ) → (settled_sheet b).refusal ≡ 0 → (settled_sheet b).model.s ≤ limits.groups
unfolding settled_sheet refused_propagation
few-settled b = go (read_sheet b) (eqb (read_sheet b).refusal 0) refl
  where
    go : (r : SheetRead) (x : Bool) → eqb r.refusal 0 ≡ x
        → (cond x (propagated r.model) (refused_propagation r.refusal r.model)).refusal ≡ 0
        → (cond x (propagated r.model) (refused_propagation r.refusal r.model)).model.s ≤ limits.groups
    go r true q z = few-propagated r.model z
    go r false q z = absurd (eqb-false r.refusal 0 q z)

-- ---- what settling answers, for a slice of so many words

module _ (p : Propagated) (table : List ℕ) where
  unfit : (p.refusal ≡ 0 → ⊥) → fitted (length table) p ≡ p
  unfolding fitted
  unfit h = rw (ne_eqb p.refusal 0 h)

  pub refused-number : (p.refusal ≡ 0 → ⊥) → numbered p.refusal p.passes ≡ settle_number (fitted (length table) p)
  refused-number h = rw (unfit h)

  pub refused-table : (p.refusal ≡ 0 → ⊥) → table ≡ table_after (fitted (length table) p) table
  refused-table h = rw (unfit h, ne_eqb p.refusal 0 h)

  module _ (z : p.refusal ≡ 0) (few : p.model.s ≤ limits.groups) where
    room-is : has_room p.model.s (length table) ≡ leb (4 * p.model.s) (length table)
    unfolding has_room
    room-is = rw (le-leb p.model.s limits.groups few)

    module _ (h : has_room p.model.s (length table) ≡ false) where
      short : ltb (length table) (4 * p.model.s) ≡ true
      short = lt-ltb (length table) (4 * p.model.s) (leb-false (4 * p.model.s) (length table) (sym room-is ∙ h))

      pub short-number : numbered 24 0 ≡ settle_number (fitted (length table) p)
      unfolding fitted refused_propagation
      short-number = rw (z, short)

      pub short-table : groups_laid p.model.groups p.model.s table ≡ table_after (fitted (length table) p) table
      unfolding fitted refused_propagation groups_laid
      short-table = rw (h, z, short)

    module _ (h : has_room p.model.s (length table) ≡ true) where
      long : ltb (length table) (4 * p.model.s) ≡ false
      long = le-ltb (length table) (4 * p.model.s) (leb-true (4 * p.model.s) (length table) (sym room-is ∙ h))

      pub laid-number : numbered p.refusal p.passes ≡ settle_number (fitted (length table) p)
      unfolding fitted
      laid-number = rw (z, long)

      pub laid_table : groups_laid p.model.groups p.model.s table ≡ table_after (fitted (length table) p) table
      unfolding fitted table_of groups_laid
      laid_table = rw (h, z, long)

-- ---- what a block, a run of blocks, closing and filling answer

module _ (b : List ℕ) (p : Propagated) (e : p ≡ settled_sheet b) where
  module _ (h : p.refusal ≡ 0 → ⊥) where
    pub block_refused : (block room : ℕ) → written_number (Refused p.refusal) ≡ draw_block b block room
    unfolding draw_block sheet_block
    block_refused block room = rw (← e, ne_eqb p.refusal 0 h)

    pub buffer-left : (block : ℕ) (buffer : List ℕ) → buffer ≡ draw_buffer b block buffer
    unfolding draw_buffer
    buffer-left block buffer = rw (← e, ne_eqb p.refusal 0 h)

    run_is : (block room : ℕ) → sheet_run b block room ≡ record { refusal = p.refusal; next = block; length = 0 }
    unfolding sheet_run
    run_is block room = rw (← e, ne_eqb p.refusal 0 h)

    pub run-refused : (block room : ℕ) → p.refusal ≡ draw_blocks b block room
    unfolding draw_blocks
    run-refused block room = rw (run_is block room, ne_eqb p.refusal 0 h)

    pub run-left : (block : ℕ) (buffer : List ℕ) → buffer ≡ draw_run b block buffer
    unfolding draw_run
    run-left block buffer = rw (← e, ne_eqb p.refusal 0 h)

    pub filling-refused : (groups values : List ℕ) → p.refusal ≡ draw_fill b groups values
    unfolding draw_fill
    filling-refused groups values = rw (← e, ne_eqb p.refusal 0 h)

    pub values-left : (groups values : List ℕ) → values ≡ draw_values b groups values
    unfolding draw_values
    values-left groups values = rw (← e, ne_eqb p.refusal 0 h)

    pub closing-refused : (flag : ℕ) (values : List ℕ) → no_groups p.refusal ≡ closed_sheet b flag values
    unfolding closed_sheet
    closing-refused flag values = rw (← e, ne_eqb p.refusal 0 h)

  module _ (z : p.refusal ≡ 0) where
    pub block_written : (block room : ℕ) → written_number (written_block p.model block room) ≡ draw_block b block room
    unfolding draw_block sheet_block
    block_written block room = rw (← e, z)

    pub buffer-written : (block : ℕ) (buffer : List ℕ) → block_buffer p.model block buffer ≡ draw_buffer b block buffer
    unfolding draw_buffer
    buffer-written block buffer = rw (← e, z)

    pub run-written : (block room : ℕ) (r : Run) → r ≡ run_of p.model block room → run_number r.refusal r.next r.length ≡ draw_blocks b block room
    unfolding draw_blocks sheet_run
    run-written block room r q = rw (← e, z, q)

    pub run-laid : (block : ℕ) (buffer : List ℕ) → run_buffer p.model block buffer ≡ draw_run b block buffer
    unfolding draw_run
    run-laid block buffer = rw (← e, z)

    pub filling-judged : (groups values : List ℕ) → fill_refusal p.model groups values ≡ draw_fill b groups values
    unfolding draw_fill
    filling-judged groups values = rw (← e, z)

    pub values-filled : (groups values : List ℕ) → filled_values p.model groups values ≡ draw_values b groups values
    unfolding draw_values
    values-filled groups values = rw (← e, z)

    pub closing : (flag : ℕ) (values : List ℕ) → closed p.model (reading_of flag) values ≡ closed_sheet b flag values
    unfolding closed_sheet
    closing flag values = rw (← e, z)

-- ---- where the listing ends

settled-range : (b : List ℕ) → (settled_sheet b).refusal ≡ 0 → T (in_range (settled_sheet b).model)
unfolding settled_sheet refused_propagation
settled-range b = go (eqb (read_sheet b).refusal 0) refl
  where
    r : SheetRead
    r = read_sheet b

    go : (x : Bool) → eqb r.refusal 0 ≡ x
        → (cond x (propagated r.model) (refused_propagation r.refusal r.model)).refusal ≡ 0
        → T (in_range (cond x (propagated r.model) (refused_propagation r.refusal r.model)).model)
    go true q z = (sheet_propagation b r.model (accepted_of b r refl (eqb-true r.refusal 0 q))).in_range_lem
    go false q z = absurd (eqb-false r.refusal 0 q z)

module _ (b : List ℕ) (p : Propagated) (e : p ≡ settled_sheet b) where
  pub count-refused : (p.refusal ≡ 0 → ⊥) → numbered p.refusal 0 ≡ draw_block_count b
  unfolding draw_block_count
  count-refused h = rw (← e, ne_eqb p.refusal 0 h)

  pub count-is : p.refusal ≡ 0 → (k : ℕ) → k ≡ cond (in_range p.model) (block_count p.model) 0 → numbered 0 k ≡ draw_block_count b
  unfolding draw_block_count
  count-is z k q =
      let r : T (in_range p.model) = subst (λ (x : Propagated). x.refusal ≡ 0 → T (in_range x.model)) (sym e) (settled-range b) z in
      rw (← e, z) (ap (numbered 0) (q ∙ rw (T_true (in_range p.model) r)))
