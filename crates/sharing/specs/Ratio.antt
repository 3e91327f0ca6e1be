-- Shares by the ratio of a member's units to all.
use Rattle.std.specs.Prelude.{ℕ, List, ℤ}
use Rattle.cents.specs.Cutting.{cut}
use Rattle.sharing.specs.Shares.{shared}

-- the pool cut by the units, which leaves no cent over
abbrev pub ratio : ℤ → List ℕ → List ℤ
ratio pool units = shared pool units (cut pool units)
