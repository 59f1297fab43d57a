-- What is wrong with a refused sheet, and where: what is wrong with the refused line, or with the number of lines.
use Rattle.std.specs.Prelude.{ℕ, ◌+◌, ◌-◌, cond, not, ◌&&◌, List, [], leb, ltb, eqb, length, get_or}
use Rattle.model.specs.Limits.{limits}
use Rattle.model.specs.Sheet.{lines_of, value_at, head_refusal}
use Rattle.line_fault.specs.declared.Head.{Head}
use Rattle.line_fault.specs.declared.Fault.{Fault}
use Rattle.line_fault.specs.declared.Fault.TheVariants.{Nothing, Lines, Empty, Unended}
use Rattle.line_fault.specs.Fault.{line_fault}

-- the line after `done` lines; empty where the sheet has none
unfoldable pub line_at : List ℕ → ℕ → List ℕ
line_at b done = get_or (lines_of b) done []

-- what a head says; zeros where it is refused
unfoldable pub head_of : List ℕ → Head
head_of l =
    cond (eqb (head_refusal l) 0)
    (record { n = value_at l 1; s = value_at l 2; c = value_at l 3 })
    (record { n = 0; s = 0; c = 0 })

-- "2 sheet empty or not ending in byte 10"
unfoldable pub end_fault : List ℕ → Fault
end_fault b = cond (eqb (length b) 0) Empty (Unended (length (lines_of b)))

-- the kind of line that is due after `done` lines; 0 where none is
unfoldable pub kind_due : Head → ℕ → ℕ
kind_due h done = cond (leb done h.s) 2 (cond (leb done (h.s + h.c)) 3 0)

-- "5 kind wrong here, a line too many, or (numbered one past the end) one missing"
unfoldable pub lines_fault : Head → List ℕ → ℕ → Fault
lines_fault h b done = Lines h (h.s + h.c + 1) (length (lines_of b)) (kind_due h done)

-- the fault of a sheet that the reader refused, with its refusal and line
unfoldable pub sheet_fault : List ℕ → ℕ → ℕ → Fault
sheet_fault b refusal line =
    let h = head_of (line_at b 0) in
    cond (ltb limits.sheet (length b)) Nothing
    (cond (eqb refusal 2) (end_fault b)
    (cond (eqb refusal 5 && not (eqb h.s 0)) (lines_fault h b (line - 1))
    (line_fault h (line - 1) refusal (line_at b (line - 1)))))
