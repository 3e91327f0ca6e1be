use Rattle.std.proofs.Common.{◌≡◌, ◌-◌}
use Rattle.statement.specs.Checks.{totals_rule}
use Rattle.statement.proofs.checks.check_totals.Given as goal

-- the kinds that are left decide
abbrev pub invariant-loop-place : goal.invariant-loop-place
invariant-loop-place l = totals_rule l.units.rows.now l.place (7 - l.place) ≡ totals_rule l.units.rows.now 0 7
