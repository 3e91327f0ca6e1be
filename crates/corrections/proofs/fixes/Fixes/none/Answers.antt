use Rattle.std.proofs.Common.{◌≤◌, arith, rules}
use Rattle.std.specs.List.{IsDistinct}
use Rattle.std.proofs.lemmas.List.Elements.{All-replicate}
use Rattle.corrections.specs.declared.fixes.Fix.{Fix}
use Rattle.corrections.proofs.fixes.Fixes.none.Goals as goal
use Rattle.limits.specs.declared.TheConstants.{MOST_PAIRS, MOST_UNITS}

pub invariant_of-result-clause-small : goal.invariant_of-result-clause-small
invariant_of-result-clause-small c = All-replicate (λ (f : Fix). f.units ≤ MOST_UNITS) MOST_PAIRS (record { pair = record { kind = 0; member = 0 }; units = 0 }) (omega arith)

pub invariant_of-result-clause-distinct : goal.invariant_of-result-clause-distinct
unfolding IsDistinct
invariant_of-result-clause-distinct c = search rules
