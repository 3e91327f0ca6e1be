-- The month file: a slot for each month on file, with thirteen rows of one line a member.
use Rattle.std.specs.Prelude.{◌≡◌, ℕ, zero, suc, ◌+◌, ◌*◌, ◌%◌, ◌<◌, List, [], ◌∷◌, ◌++◌, length, take, drop, ℤ, pos, slice_index}
use Rattle.statement.specs.Columns.{kind_of, column}
use Rattle.ledger.specs.declared.line.Line.{Line}
use Rattle.ledger.specs.declared.line.TheConstants.{MEMBER_LINES}
use Rattle.limits.specs.declared.TheConstants.{MONTHS_ON_FILE}

-- how many lines it has
abbrev pub file_length : ℕ → ℕ
file_length members = MEMBER_LINES * members

abbrev pub no_line : Line
no_line = record { units = 0; cents = pos 0 }

-- where the row of a month and of the component at place c begins: the slots in turn, then the components
abbrev pub row_start : ℕ → ℕ → ℕ → ℕ
row_start members month c = (month % MONTHS_ON_FILE * 13 + c) * members

-- the line of a member in that row
abbrev pub line_place : ℕ → ℕ → ℕ → ℕ → ℕ
line_place members month c member = row_start members month c + member

-- lines of units and cents, side by side
abbrev pub lines_of : List ℕ → List ℤ → List Line
lines_of [] zs = []
lines_of (u ∷ us) [] = []
lines_of (u ∷ us) (z ∷ zs) = record { units = u; cents = z } ∷ lines_of us zs

-- what a function gives at the places of a list are its units
abbrev pub GivesUnits : (ℕ → ℕ → Type 0) → List ℕ → Type 0
GivesUnits gives us = (i unit : ℕ) → i < length us → gives i unit → unit ≡ slice_index us i

-- the units of the first n components, one after the other
unfoldable pub units_by_component : List (List ℕ) → ℕ → List ℕ
units_by_component rows zero = []
units_by_component rows (suc n) = units_by_component rows n ++ column rows (kind_of n)

-- a list with other elements from a place on
abbrev pub put : {X : Type 0} → ℕ → List X → List X → List X
put start new old = take start old ++ (new ++ drop (start + length new) old)

-- the part of a list from a place on
abbrev pub part : {X : Type 0} → ℕ → ℕ → List X → List X
part start n xs = take n (drop start xs)
