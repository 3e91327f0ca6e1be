use Rattle.std.proofs.Common.{◌≡◌, ◌-◌, ◌++◌, take}
use Rattle.statement.specs.Readings.{book_rows}
use Rattle.statement.proofs.reading.read_book.Given as goal

-- the rows so far, followed by those that are left
abbrev pub invariant-loop-member : goal.invariant-loop-member
invariant-loop-member g l =
    take l.member l.out ++ book_rows (g.B.Book.units l.book) l.member (g.B.Book.count l.book - l.member) ≡ book_rows (g.B.Book.units l.book) 0 (g.B.Book.count l.book)
