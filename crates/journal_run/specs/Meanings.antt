-- The entries and the orders of a journal, as the definitions have them.
use Rattle.std.specs.Prelude.{List, map}
use Rattle.std.specs.Borrow.{Bor}
use Rattle.std.specs.List.{zip}
use Rattle.book.specs.declared.book.Book.{Ghosts}
use Rattle.bottom_books.specs.declared.measured_book.MeasuredBook.{MeasuredBook}
use Rattle.bottom_books.specs.Tables.{cell}
use Rattle.journal_text.specs.declared.entry.Entry.{Entry}
use Rattle.ledger.specs.Readings.{Reading, reading, rows_read}
use Rattle.runs.specs.declared.order.Order.{Order}
use Rattle.runs.specs.Orders.{Deed, book, bill, resettle, deed_of}
use Rattle.journal_run.specs.Deeds.{EntryOrder}
use Rattle.journal_run.specs.declared.given.Given.{Given}

-- a reading by its members' rows: nothing else of a book is ever read
abbrev pub by_rows : Reading → Reading
by_rows b = reading b.month b.count (cell (rows_read b))

abbrev pub deed_by_rows : Deed → Deed
deed_by_rows (book control amounts) = book control amounts
deed_by_rows (bill b) = bill (by_rows b)
deed_by_rows (resettle component b) = resettle component (by_rows b)

-- what a book of units is read as
abbrev pub measured : {M : Type 0} → Ghosts (MeasuredBook M)
measured = record { month = λ b. b.units.month; count = λ b. b.units.count; units = λ b. cell b.units.rows }

abbrev pub order_deed : {M : Type 0} → Order (MeasuredBook M) → Deed
order_deed o = deed_by_rows (deed_of measured o)

-- the entries that are referred to
abbrev pub entries_at : List (Bor Entry) → List Entry
entries_at entries = map (λ e. e.now) entries

-- orders, each behind the entry that gives it
abbrev pub entry_orders : {M : Type 0} → List (Bor Entry) → List (Order (MeasuredBook M)) → List EntryOrder
entry_orders entries orders = zip (entries_at entries) (map order_deed orders)

-- the orders that are given so far
abbrev pub given_orders : Given → List EntryOrder
given_orders given = entry_orders given.entries.items given.orders.items
