-- Units that are given as they are.
use Rattle.std.specs.Prelude.{ℕ, cond, List, Some, None, Option, nat_le}
use Rattle.cents.specs.Passes.{all_pass}
use Rattle.limits.specs.declared.TheConstants.{MOST_UNITS}

-- a row whose units are at most 2,000,000,000
abbrev pub given_units : List ℕ → Option (List ℕ)
given_units row = cond (all_pass (λ n. nat_le n MOST_UNITS) row) (Some row) None
