use Rattle.std.proofs.Common.{◌≡◌, length, take, drop}
use Rattle.month_text.specs.Ranges.{each, natural_in}
use Rattle.month_text.proofs.Eachwise.{before}
use Rattle.month_text.proofs.ranges.each_natural.Given as goal

-- the numbers so far, and then what the rest of the list gives
abbrev pub invariant-loop-i : goal.invariant-loop-i
invariant-loop-i g l =
    (length l.numbers ≡ g.row.K)
    × (each (natural_in l.low l.high) l.x-items ≡ before (take l.i l.numbers) (each (natural_in l.low l.high) (drop l.i l.x-items)))
