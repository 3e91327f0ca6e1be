-- From six heads of cost to the thirteen component costs.
use Rattle.std.specs.Prelude.{ℕ, ◌+◌, ◌-◌, ◌≤◌, List, [], ◌∷◌, ◌++◌, ℤ, ◌+ℤ◌, slice_index, unsigned_abs}
use Rattle.cents.specs.Cutting.{cut}
use Rattle.tariff.specs.Heads.{at}

-- components 7 to 13, of 100,000
abbrev pub settlement_weights : List ℕ
settlement_weights = 68000 ∷ 8000 ∷ 4800 ∷ 3200 ∷ 7896 ∷ 104 ∷ 8000 ∷ []

-- a split and what it leaves of 1,000
abbrev pub halves : ℕ → List ℕ
halves split = split ∷ (1000 - split) ∷ []

-- the cost of 9-1 to 9-4: division part, management part, non-divisional cost
abbrev pub service : List ℤ → List ℤ → List ℤ → ℕ → ℤ
service parts managed heads i = at parts i +ℤ at managed i +ℤ at heads (i + 1)

-- settlement cost: division part, non-divisional cost
abbrev pub settlement : List ℤ → List ℤ → ℤ
settlement parts heads = at parts 5 +ℤ at heads 5

-- the cost of 9-1 to 9-4 and of settlement
abbrev pub services : List ℤ → List ℤ → List ℤ → List ℤ
services parts managed heads =
    service parts managed heads 0
    ∷ service parts managed heads 1
    ∷ service parts managed heads 2
    ∷ service parts managed heads 3
    ∷ settlement parts heads
    ∷ []

-- the division weights cut division cost (9-1 to 9-4, management, settlement), and the management
-- weights cut its management part
abbrev pub divided : List ℕ → List ℤ → List ℤ
divided division heads = cut (at heads 0) division

abbrev pub managed : List ℕ → List ℕ → List ℤ → List ℤ
managed division management heads = cut (at (divided division heads) 4) management

abbrev pub service_costs : List ℕ → List ℕ → List ℤ → List ℤ
service_costs division management heads = services (divided division heads) (managed division management heads) heads

-- 9-1; 9-2 and 9-3 in two; 9-4; settlement in seven
abbrev pub component_costs : List ℕ → List ℤ → List ℤ
component_costs split five =
    at five 0
    ∷ (cut (at five 1) (halves (slice_index split 0))
    ++ (cut (at five 2) (halves (slice_index split 1)) ++ (at five 3 ∷ cut (at five 4) settlement_weights)))

abbrev pub costs : List ℕ → List ℕ → List ℕ → List ℤ → List ℤ
costs division management split heads = component_costs split (service_costs division management heads)

-- no amount lies beyond a bound
abbrev pub Bounded : ℕ → List ℤ → Type 0
Bounded most amounts = (k : ℕ) → unsigned_abs (at amounts k) ≤ most
