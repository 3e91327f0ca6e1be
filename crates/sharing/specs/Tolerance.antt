-- How near shares lie to the exact ones. A rate's step is in hundredths of a cent, and a rate is
-- at most half a step off, so all is counted in halves of a hundredth.
use Rattle.std.specs.Prelude.{ℕ, ◌+◌, ◌*◌, ◌/◌, ◌≤◌, List, ℤ, pos, ◌-ℤ◌, ◌*ℤ◌, sum, slice_index, slice_index_or, unsigned_abs}

-- a cent, in halves of a hundredth
abbrev pub cent : ℕ
cent = 200

-- what some members bear together lies near pool × units ÷ total: to within half a step for each
-- unit and one cent for each member
abbrev pub NearTogether : ℕ → ℕ → ℤ → ℕ → ℕ → ℤ → Type 0
NearTogether members step pool total units cents =
    cent * unsigned_abs ((pos total *ℤ cents) -ℤ (pool *ℤ pos units)) ≤ total * (step * units + cent * members)

-- one member's share
abbrev pub Near : ℕ → ℤ → ℕ → ℕ → ℤ → Type 0
Near step pool total units share = NearTogether 1 step pool total units share

-- each member's share, by its units and the units of all
abbrev pub EachNear : ℕ → ℤ → List ℕ → List ℤ → Type 0
EachNear step pool units shares = (m : ℕ) → Near step pool (sum units) (slice_index units m) (slice_index_or shares m (pos 0))

-- how many cents the shares of all members together may lie from the pool
abbrev pub slack : ℕ → ℕ → ℕ → ℕ
slack members step units = step * units / cent + members
