-- Tables of units.
use Rattle.std.specs.Prelude.{ℕ, ◌-◌, ◌≤◌, cond, List, [], ◌∷◌, length, Some, None, Option, slice_index, slice_index_or}
use Rattle.refusal.specs.Answers.{Answer, done, refused, next}
use Rattle.refusal.specs.declared.Layer.TheVariants as layer
use Rattle.limits.specs.Ranges.{month_lawful, count_lawful}
use Rattle.limits.specs.declared.TheConstants.{MOST_UNITS}

-- the units of a kind, counted from 1, and a member, counted from 0
abbrev pub cell : List (List ℕ) → ℕ → ℕ → ℕ
cell rows kind member = slice_index (slice_index_or rows member []) (kind - 1)

-- no units are above 2,000,000,000
abbrev pub UnitsInRange : List (List ℕ) → Type 0
UnitsInRange rows = (kind member : ℕ) → cell rows kind member ≤ MOST_UNITS

-- a row's units, or 2 where it is out of range
abbrev pub row_rule : Option (List ℕ) → Answer (List ℕ)
row_rule None = refused 2 layer.Book 0
row_rule (Some units) = done units

-- the units of all rows, member by member
abbrev pub rows_rule : {R : Type 0} → (R → Option (List ℕ)) → List R → Answer (List (List ℕ))
rows_rule reads [] = done []
rows_rule reads (r ∷ rows) = next (row_rule (reads r)) (λ units. next (rows_rule reads rows) (λ more. done (units ∷ more)))

-- 2 where the month is out of range, 4 where there are no members or more than 200, then 2 member by member
abbrev pub table_rule : {R : Type 0} → (R → Option (List ℕ)) → ℕ → List R → Answer (List (List ℕ))
table_rule reads month rows =
    cond (month_lawful month) (cond (count_lawful (length rows)) (rows_rule reads rows) (refused 4 layer.Book 0)) (refused 2 layer.Book 0)
