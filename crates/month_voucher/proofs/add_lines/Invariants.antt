use Rattle.std.proofs.Common.{◌≡◌, ◌+◌, drop}
use Rattle.month_voucher.specs.Costs.{lines_rule}
use Rattle.month_voucher.proofs.add_lines.Given as goal

-- the lines that are left make of the amounts so far what all lines make of those at the start
abbrev pub invariant-loop-i : goal.invariant-loop-i
invariant-loop-i l =
    (lines_rule l.voucher.amounts (l.i + 1) (drop l.i l.fn.cost) ≡ lines_rule l.initial.voucher.amounts 1 l.fn.cost)
    × (l.voucher.control ≡ l.initial.voucher.control)
