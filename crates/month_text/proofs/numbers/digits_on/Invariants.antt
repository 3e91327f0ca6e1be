use Rattle.std.proofs.Common.{◌≡◌, ◌≤◌, length}
use Rattle.month_text.specs.Numbers.{digits_on}
use Rattle.month_text.specs.declared.month.TheConstants.{MOST_NUMBER}
use Rattle.month_text.proofs.numbers.digits_on.Given as goal

-- the number is still small, and its text says what the whole text says
abbrev pub invariant-loop-s : goal.invariant-loop-s
invariant-loop-s l = (l.n ≤ MOST_NUMBER) × (digits_on l.fn.n l.fn.s ≡ digits_on l.n l.s)

abbrev pub decreases-loop-s : goal.decreases-loop-s
decreases-loop-s l = length l.s
