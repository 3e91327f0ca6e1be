-- The accepted calls since a ledger was opened, the latest first, and the figures that follow from them alone.
use Rattle.std.specs.Prelude.{ℕ, zero, suc, ◌+◌, ◌*◌, cond, ◌&&◌, Ok, Err, Result, List, [], ◌∷◌, ℤ, pos, ◌+ℤ◌, ◌-ℤ◌, ◌==◌}
use Rattle.cents.specs.Cutting.{sum_z}
use Rattle.tariff.specs.Heads.{at, sums}
use Rattle.ledger.specs.Readings.{Reading, units_read}
use Rattle.ledger.specs.Files.{part}
use Rattle.ledger.specs.States.{no_heads}
use Rattle.ledger.specs.Billing.{Cut}

-- an accepted call, by what it was handed and by the cells that it wrote
pub data Event : Type 0 where
  booked : List ℤ → Event
  billed : Reading → List ℤ → Event
  -- of the component at a place
  resettled : ℕ → Reading → List ℤ → Event

abbrev pub History : Type 0
History = List Event

-- the history with a call that was made: a refused one adds nothing
abbrev pub history_with : {T E : Type 0} → Result T E → Event → History → History
history_with (Ok v) event h = event ∷ h
history_with (Err e) event h = h

abbrev pub cents_booked : History → ℤ
cents_booked [] = pos 0
cents_booked (booked amounts ∷ h) = sum_z amounts +ℤ cents_booked h
cents_booked (billed b cells ∷ h) = cents_booked h
cents_booked (resettled c b cells ∷ h) = cents_booked h

abbrev pub cents_billed : History → ℤ
cents_billed [] = pos 0
cents_billed (booked amounts ∷ h) = cents_billed h
cents_billed (billed b cells ∷ h) = sum_z cells +ℤ cents_billed h
cents_billed (resettled c b cells ∷ h) = sum_z cells +ℤ cents_billed h

-- the cells of the component at place c in a bill's statement
abbrev pub component_cells : Reading → List ℤ → ℕ → List ℤ
component_cells b cells c = part (c * b.count) b.count cells

-- a component's cents billed
abbrev pub billed_of : ℕ → History → ℤ
billed_of c [] = pos 0
billed_of c (booked amounts ∷ h) = billed_of c h
billed_of c (billed b cells ∷ h) = sum_z (component_cells b cells c) +ℤ billed_of c h
billed_of c (resettled d b cells ∷ h) = cond (d == c) (sum_z cells) (pos 0) +ℤ billed_of c h

-- what was booked since the last bill, head by head
abbrev pub waiting : History → List ℤ
waiting [] = no_heads
waiting (booked amounts ∷ h) = sums (waiting h) amounts
waiting (billed b cells ∷ h) = no_heads
waiting (resettled c b cells ∷ h) = waiting h

-- a component's cost so far: of each month billed, what was booked while it was open, cut by the sheet
abbrev pub cost_of : Cut → ℕ → History → ℤ
cost_of cut c [] = pos 0
cost_of cut c (booked amounts ∷ h) = cost_of cut c h
cost_of cut c (billed b cells ∷ h) = at (cut (waiting h)) c +ℤ cost_of cut c h
cost_of cut c (resettled d b cells ∷ h) = cost_of cut c h

-- a month's pool: the cost so far up to and with that month, less the cents billed before its bill
abbrev pub pool_of : Cut → ℕ → ℕ → History → ℤ
pool_of cut k c [] = pos 0
pool_of cut k c (booked amounts ∷ h) = pool_of cut k c h
pool_of cut k c (billed b cells ∷ h) = cond (b.month == k) (cost_of cut c (billed b cells ∷ h) -ℤ billed_of c h) (pool_of cut k c h)
pool_of cut k c (resettled d b cells ∷ h) = pool_of cut k c h

-- the units last read for a month and component
abbrev pub units_last_read : ℕ → ℕ → History → List ℕ
units_last_read k c [] = []
units_last_read k c (booked amounts ∷ h) = units_last_read k c h
units_last_read k c (billed b cells ∷ h) = cond (b.month == k) (units_read b c) (units_last_read k c h)
units_last_read k c (resettled d b cells ∷ h) = cond (b.month == k && d == c) (units_read b c) (units_last_read k c h)

-- the bill and the differences of a month, component and member together
abbrev pub cents_of : ℕ → ℕ → ℕ → History → ℤ
cents_of k c m [] = pos 0
cents_of k c m (booked amounts ∷ h) = cents_of k c m h
cents_of k c m (billed b cells ∷ h) = cond (b.month == k) (at (component_cells b cells c) m) (pos 0) +ℤ cents_of k c m h
cents_of k c m (resettled d b cells ∷ h) = cond (b.month == k && d == c) (at cells m) (pos 0) +ℤ cents_of k c m h

-- the months billed, the latest first
abbrev pub months_billed : History → List ℕ
months_billed [] = []
months_billed (booked amounts ∷ h) = months_billed h
months_billed (billed b cells ∷ h) = b.month ∷ months_billed h
months_billed (resettled c b cells ∷ h) = months_billed h

-- n months in a row from a first one on, the latest first
abbrev pub months_from : ℕ → ℕ → List ℕ
months_from first zero = []
months_from first (suc n) = (first + n) ∷ months_from first n
