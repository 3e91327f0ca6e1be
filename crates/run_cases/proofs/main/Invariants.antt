use Rattle.std.proofs.Common.{◌<◌}
use Rattle.run_cases.proofs.main.Given as goal

abbrev pub invariant-loop-number : goal.invariant-loop-number
invariant-loop-number l = l.agreeing < l.number
