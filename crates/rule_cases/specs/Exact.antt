-- Shares that are each rounded by themselves.
use Rattle.std.specs.Prelude.{ℕ, ℤ, pos, ◌*ℤ◌}
use Rattle.cents.specs.Rounding.{round_nearest}

-- pool × units ÷ total, to the nearest cent; 0 where the total is 0
abbrev pub exact_share : ℤ → ℕ → ℕ → ℤ
exact_share pool total units = round_nearest (pool *ℤ pos units) total
