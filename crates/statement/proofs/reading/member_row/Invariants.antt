use Rattle.std.proofs.Common.{◌≡◌, ℕ, ◌+◌, ◌<◌, get_or}
use Rattle.statement.proofs.reading.member_row.Given as goal

-- the units of the kinds so far; the first kind was not refused, so the member is the book's
abbrev pub invariant-loop-i : goal.invariant-loop-i
invariant-loop-i g l =
    (0 < l.i → l.member < g.B.Book.count l.book)
    × ((k : ℕ) → k < l.i → get_or l.units-items k 0 ≡ g.B.Book.units l.book (k + 1) l.member)
