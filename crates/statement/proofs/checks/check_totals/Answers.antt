use Rattle.std.proofs.Common.{arith}
use Rattle.statement.specs.Checks.{totals_rule}
use Rattle.statement.proofs.Columns.{totals_stop, totals_more}
use Rattle.statement.proofs.checks.check_totals.Goals as goal

pub returns-then-total-gt-MOST_UNITS : goal.returns-then-total-gt-MOST_UNITS
returns-then-total-gt-MOST_UNITS c =
    rw (c.refuses_at.ensures, c.number.ensures) (totals_stop c.args.units.now.rows.now c.loop-place.place (totals_rule c.args.units.now.rows.now 0 7) (omega arith) c.loop-place.invariant (omega (arith, c.total.ensures)))

pub loop-place-preserved : goal.loop-place-preserved
loop-place-preserved c =
    totals_more c.args.units.now.rows.now c.loop-place.place (totals_rule c.args.units.now.rows.now 0 7) (omega arith) c.loop-place.invariant (omega (arith, c.total.ensures))
