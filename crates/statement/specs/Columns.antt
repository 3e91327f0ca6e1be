-- Units by kind. Places count from 0: place c is component c + 1, and place k is kind k + 1.
use Rattle.std.specs.Prelude.{ℕ, ◌-◌, cond, List, map, nat_lt, slice_index}

-- components 1 to 7 are charged by kinds 1 to 7, components 8 to 13 by kinds 1 to 6
abbrev pub kind_of : ℕ → ℕ
kind_of c = cond (nat_lt c 7) c (c - 7)

-- the units of a kind, member by member
abbrev pub column : List (List ℕ) → ℕ → List ℕ
column rows k = map (λ row. slice_index row k) rows
