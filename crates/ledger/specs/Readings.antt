-- What a book means, and the units that a component takes from it.
use Rattle.std.specs.Prelude.{ℕ, List}
use Rattle.book.specs.declared.book.Book.{Ghosts}
use Rattle.statement.specs.Columns.{kind_of, column}
use Rattle.statement.specs.Readings.{book_rows}

-- a month, a count of members, and the units of each kind and member
pub record Reading : Type 0 where
  pub month : ℕ
  pub count : ℕ
  pub units : ℕ → ℕ → ℕ

abbrev pub reading : ℕ → ℕ → (ℕ → ℕ → ℕ) → Reading
reading month count units = record { month = month; count = count; units = units }

abbrev pub reading_of : {B : Type 0} → Ghosts B → B → Reading
reading_of g book = reading (g.month book) (g.count book) (g.units book)

-- the units of the seven kinds, member by member
abbrev pub rows_read : Reading → List (List ℕ)
rows_read b = book_rows b.units 0 b.count

-- the units of the kind at a place
abbrev pub units_of_kind : Reading → ℕ → List ℕ
units_of_kind b kind = column (rows_read b) kind

-- the units of the kind that the component at place c is charged by
abbrev pub units_read : Reading → ℕ → List ℕ
units_read b c = units_of_kind b (kind_of c)
