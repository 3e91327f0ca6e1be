use Rattle.std.proofs.Common.{◌≡◌, length, take}
use Rattle.statement.specs.Columns.{column}
use Rattle.statement.proofs.usage.Usage.column.Given as goal
use Rattle.limits.specs.declared.TheConstants.{MOST_MEMBERS}

-- the units so far
abbrev pub invariant-loop-member : goal.invariant-loop-member
invariant-loop-member l = (length l.column ≡ MOST_MEMBERS) × (take l.member l.column ≡ column (take l.member l.row-items) l.kind.place)
