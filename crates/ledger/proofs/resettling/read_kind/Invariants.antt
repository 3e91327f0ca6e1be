use Rattle.std.proofs.Common.{◌≡◌, take}
use Rattle.statement.specs.Columns.{column}
use Rattle.statement.specs.Readings.{book_rows}
use Rattle.ledger.proofs.resettling.read_kind.Given as goal

-- the units so far
abbrev pub invariant-loop-member : goal.invariant-loop-member
invariant-loop-member g l = take l.member l.out ≡ take l.member (column (book_rows (g.B.Book.units l.book) 0 (g.B.Book.count l.book)) l.kind.place)
