-- What a month's bill charges.
use Rattle.std.specs.Prelude.{◌≡◌, ℕ, zero, suc, ◌+◌, ◌*◌, ◌/◌, List, [], ◌∷◌, ◌++◌, map, length, ℤ, pos, ◌-ℤ◌, sum, slice_index_or, if◌then◌else◌, nat_lt}
use Rattle.std.specs.List.{range_with_len}
use Rattle.cents.specs.Cutting.{sum_z}
use Rattle.statement.specs.declared.charge.ComponentCharge.{ComponentCharge}
use Rattle.sharing.specs.Shares.{Shares}
use Rattle.statement.specs.Columns.{kind_of, column}

-- what each member pays for the component at place c
abbrev pub charge : Shares → List ℤ → List (List ℕ) → ℕ → List ℤ
charge shares pools rows c = shares (slice_index_or pools c (pos 0)) (column rows (kind_of c))

-- its pool, the units that shared it, and what is left of it
abbrev pub component_charge : Shares → ℤ → List ℕ → ComponentCharge
component_charge shares pool units = record { pool = pool; units = sum units; balance = pool -ℤ sum_z (shares pool units) }

-- the same for the component at place c
abbrev pub charged : Shares → List ℤ → List (List ℕ) → ℕ → ComponentCharge
charged shares pools rows c = component_charge shares (slice_index_or pools c (pos 0)) (column rows (kind_of c))

-- the first n components, one after the other
unfoldable pub component_charges : Shares → List ℤ → List (List ℕ) → ℕ → List ComponentCharge
component_charges shares pools rows zero = []
component_charges shares pools rows (suc n) = component_charges shares pools rows n ++ (charged shares pools rows n ∷ [])

-- their cells, component by component
unfoldable pub cells : Shares → List ℤ → List (List ℕ) → ℕ → List ℤ
cells shares pools rows zero = []
cells shares pools rows (suc n) = cells shares pools rows n ++ charge shares pools rows n

-- a month is charged: every component's charge, and the statement of their cells
abbrev pub IsCharged : Shares → List ℤ → List (List ℕ) → List ComponentCharge → List ℤ → Type 0
IsCharged shares pools rows charges statement =
    (charges ≡ component_charges shares pools rows 13) × (statement ≡ cells shares pools rows 13)

-- a statement has thirteen cells for each member that it counts
abbrev pub members_in : List ℤ → ℕ
members_in statement = length statement / 13

-- what the member at a place pays for the component at place c; 0 where the statement has no such member
abbrev pub member_charge : List ℤ → ℕ → ℕ → ℤ
member_charge statement member c =
    if nat_lt member (members_in statement) then slice_index_or statement (c * members_in statement + member) (pos 0) else pos 0

-- the same component by component
unfoldable pub member_charges : List ℤ → ℕ → List ℤ
member_charges statement member = map (member_charge statement member) (range_with_len 0 13)
