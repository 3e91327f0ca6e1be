use Rattle.std.proofs.Common.{◌≡◌, take, drop}
use Rattle.bottom_books.specs.Tables.{rows_rule}
use Rattle.bottom_books.proofs.Rows.{onto}
use Rattle.bottom_books.proofs.unit_table.calls.read_rows.Given as goal

-- the rows so far, and what the rows that are left make of them
abbrev pub invariant-loop-i : goal.invariant-loop-i
invariant-loop-i g l = onto (take l.i l.out) (rows_rule (g.M.Measure.reads l.measure) (drop l.i l.rows)) ≡ rows_rule (g.M.Measure.reads l.measure) l.rows
