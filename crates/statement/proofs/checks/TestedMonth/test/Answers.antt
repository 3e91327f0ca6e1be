use Rattle.std.proofs.Common.{arith}
use Rattle.statement.proofs.Passed.{totals_all, pools_all}
use Rattle.statement.proofs.checks.TestedMonth.test.Goals as goal

pub invariant_of-result : goal.invariant_of-result
invariant_of-result c = record {
  within = pools_all c.args.pools 0 c.in_ok-check_pools.ensures;
  totals = λ k below. totals_all c.args.rows.now 0 7 c.in_ok-check_totals.ensures k (omega arith) (omega arith);
}
