-- What can be shared.
use Rattle.std.specs.Prelude.{ℕ, Bool, ◌&&◌, List, ℤ, sum, nat_le, unsigned_abs}
use Rattle.limits.specs.declared.TheConstants.{MOST_CENTS, MOST_UNITS}

-- a pool of at most 40,000,000.00 either way, over 1 to 2,000,000,000 units
abbrev pub in_domain : ℤ → ℕ → Bool
in_domain pool total = nat_le (unsigned_abs pool) MOST_CENTS && (nat_le 1 total && nat_le total MOST_UNITS)

abbrev pub shareable : ℤ → List ℕ → Bool
shareable pool units = in_domain pool (sum units)
