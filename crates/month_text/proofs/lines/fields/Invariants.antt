use Rattle.std.proofs.Common.{◌≡◌, ◌-◌, length, take}
use Rattle.month_text.specs.Lines.{fields_at}
use Rattle.month_text.proofs.Fields.{onto}
use Rattle.month_text.proofs.lines.fields.Given as goal

-- the numbers so far, and then what the rest of the line says
abbrev pub invariant-loop-i : goal.invariant-loop-i
invariant-loop-i g l =
    (length l.number-items ≡ g.row.K)
    × (fields_at l.signs g.row.K l.s ≡ onto (take l.i l.number-items) (fields_at l.signs (g.row.K - l.i) l.rest))
