use Rattle.std.proofs.Common.{◌≡◌, ◌*◌, ◌++◌, length, take, drop}
use Rattle.statement.specs.Charges.{component_charges, cells}
use Rattle.statement.proofs.checks.TestedMonth.charge.Given as goal

-- the components so far, and the statement with their cells in front
abbrev pub invariant-loop-place : goal.invariant-loop-place
invariant-loop-place g l =
    (length l.charge-items ≡ 13)
    × (take l.place l.charge-items ≡ component_charges (g.R.Rule.shares l.rule) l.self.pools l.self.units.rows.now l.place)
    × (l.statement ≡ cells (g.R.Rule.shares l.rule) l.self.pools l.self.units.rows.now l.place ++ drop (l.place * length l.self.units.rows.now) l.initial.statement)
