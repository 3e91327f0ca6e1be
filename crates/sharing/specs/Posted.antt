-- Shares by a posted rate.
use Rattle.std.specs.Prelude.{ℕ, cond, List, map, ℤ, pos, ◌*ℤ◌, sum}
use Rattle.cents.specs.Rounding.{round_nearest}
use Rattle.sharing.specs.Domain.{in_domain}
use Rattle.sharing.specs.Shares.{shared}

-- the rate of a unit, in hundredths of a cent; 0 where nothing can be shared
abbrev pub posted_rate : ℤ → ℕ → ℤ
posted_rate pool total = cond (in_domain pool total) (round_nearest (pos 100 *ℤ pool) total) (pos 0)

-- what a member's units bear at a rate, in cents
abbrev pub posted_share : ℤ → ℕ → ℤ
posted_share rate units = round_nearest (rate *ℤ pos units) 100

abbrev pub posted : ℤ → List ℕ → List ℤ
posted pool units = shared pool units (map (posted_share (posted_rate pool (sum units))) units)
