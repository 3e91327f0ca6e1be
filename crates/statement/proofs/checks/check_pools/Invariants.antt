use Rattle.std.proofs.Common.{◌≡◌, drop}
use Rattle.statement.specs.Checks.{pools_rule}
use Rattle.statement.proofs.checks.check_pools.Given as goal

-- the components that are left decide
abbrev pub invariant-loop-place : goal.invariant-loop-place
invariant-loop-place l = pools_rule (drop l.place l.pool-items) l.place ≡ pools_rule l.pool-items 0
