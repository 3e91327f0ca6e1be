use Rattle.std.proofs.Common.{◌≡◌, take, ◌-ℤ◌}
use Rattle.cents.specs.Cutting.{sum_z}
use Rattle.statement.proofs.component.balance_of.Given as goal

-- what the cells so far leave
abbrev pub invariant-loop-cents : goal.invariant-loop-cents
invariant-loop-cents l = l.balance ≡ l.pool -ℤ sum_z (take l.cents-index l.cells)
