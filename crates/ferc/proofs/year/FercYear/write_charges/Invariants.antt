use Rattle.std.proofs.Common.{◌≡◌, ◌-◌, ◌++◌, take}
use Rattle.ferc.specs.Years.{charges}
use Rattle.ferc.proofs.year.FercYear.write_charges.Given as goal

-- the charges so far, followed by those that are left
abbrev pub invariant-loop-i : goal.invariant-loop-i
invariant-loop-i g l =
    take l.i l.statement ++ charges l.self.rate (g.B.Book.units l.book) l.i (g.B.Book.count l.book - l.i) ≡ charges l.self.rate (g.B.Book.units l.book) 0 (g.B.Book.count l.book)
