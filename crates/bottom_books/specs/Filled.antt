-- A table that was filled from a month's rows.
use Rattle.std.specs.Prelude.{◌≡◌, ℕ, List, length, take}
use Rattle.refusal.specs.Answers.{Answer, done}
use Rattle.bottom_books.specs.declared.unit_table.UnitTable.{UnitTable}

-- it has the month, a member for each row, and the units that are read off the rows
abbrev pub Filled : {R : Type 0} → UnitTable → ℕ → List R → Answer (List (List ℕ)) → Type 0
Filled table month rows read = (table.month ≡ month) × (table.count ≡ length rows) × (read ≡ done (take (length rows) table.rows))
