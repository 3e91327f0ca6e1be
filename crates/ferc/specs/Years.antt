-- A FERC year and its months.
use Rattle.std.specs.Prelude.{◌≡◌, ℕ, zero, suc, ◌+◌, cond, List, [], ◌∷◌, length, ℤ, pos, ◌+ℤ◌, ◌*ℤ◌, Result, MatchResult, ◌==◌, nat_lt}
use Rattle.refusal.specs.Answers.{Answer, done, refused}
use Rattle.refusal.specs.declared.Layer.TheVariants as layer
use Rattle.cents.specs.Cutting.{sum_z}
use Rattle.cents.specs.Rounding.{round_nearest}
use Rattle.ferc.specs.declared.year.FercYear.{FercYear}
use Rattle.ferc.specs.declared.year.TheConstants.{MOST_MONTHS}

-- 11 where the statement has not one cell a member, then 18 where twelve months are billed
abbrev pub month_rule : ℕ → ℕ → ℕ → Answer (Unit {0})
month_rule months cells count = cond (cells == count) (cond (nat_lt months MOST_MONTHS) (done tt) (refused 18 layer.Ferc 0)) (refused 11 layer.Ferc 0)

-- rate × units ÷ 100, nearest
abbrev pub charge_of : ℤ → ℕ → ℤ
charge_of rate units = round_nearest (rate *ℤ pos units) 100

-- the charges of n members from a place on, by their units of kind 1
abbrev pub charges : ℤ → (ℕ → ℕ → ℕ) → ℕ → ℕ → List ℤ
charges rate units member zero = []
charges rate units member (suc n) = charge_of rate (units 1 member) ∷ charges rate units (member + 1) n

-- the cents of all statements
abbrev pub all_cells : List (List ℤ) → ℤ
all_cells [] = pos 0
all_cells (cells ∷ history) = sum_z cells +ℤ all_cells history

-- a year adds up: its months are those billed since it was made, and its cents all their cells
abbrev pub AddsUp : List (List ℤ) → FercYear → Type 0
AddsUp history year = (year.months ≡ length history) × (year.billed ≡ all_cells history)

-- a month is billed: each of n members its charge, and the year has a month more and their cents
abbrev pub IsBilled : FercYear → (ℕ → ℕ → ℕ) → ℕ → FercYear → List ℤ → Type 0
IsBilled old units n new cells =
    (cells ≡ charges old.rate units 0 n)
    × (new.rate ≡ old.rate)
    × (new.months ≡ old.months + 1)
    × (new.billed ≡ old.billed +ℤ sum_z cells)

-- a year that added up adds up with the month's cells too, and where the month is refused, without them
abbrev pub StillAddsUp : {T E : Type 0} → Result T E → FercYear → FercYear → List ℤ → Type 0
StillAddsUp result old new cells =
    (history : List (List ℤ)) → AddsUp history old → MatchResult result (λ _. AddsUp (cells ∷ history) new) (λ _. AddsUp history new)
