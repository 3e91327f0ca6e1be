use Rattle.std.proofs.Common.{◌<◌, ◌≤◌}
use Rattle.case_texts.proofs.compare.Given as goal

abbrev pub invariant-loop-number : goal.invariant-loop-number
invariant-loop-number g l = (l.agreeing < l.number-counter) × (l.agreeing ≤ l.count)
