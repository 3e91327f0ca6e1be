-- The accounts that every run of calls keeps: what is promised of them, and what the next call needs to keep that.
use Rattle.std.specs.Prelude.{◌≡◌, ℕ, ◌+◌, ◌%◌, ◌<◌, ◌≤◌, length, pos, ◌+ℤ◌, ◌-ℤ◌, sum, slice_index, slice_index_or, unsigned_abs}
use Rattle.cents.specs.Cutting.{sum_z}
use Rattle.tariff.specs.Heads.{at}
use Rattle.sharing.specs.Tolerance.{Near}
use Rattle.sharing.specs.Shares.{Shares}
use Rattle.ledger.specs.Files.{no_line, line_place}
use Rattle.ledger.specs.States.{LedgerState, account_at, balances}
use Rattle.ledger.specs.Billing.{Cut}
use Rattle.ledger.specs.Histories.{History, cents_booked, cents_billed, billed_of, waiting, cost_of, pool_of, units_last_read, cents_of, months_billed, months_from}
use Rattle.limits.specs.declared.TheConstants.{MONTHS_ON_FILE, MOST_CENTS, MOST_UNITS}

-- what a ledger was opened with: its rule, by shares and step, its sheet, its members and its first month
pub record Terms : Type 0 where
  pub shares : Shares
  pub step : ℕ
  pub cut : Cut
  pub members : ℕ
  pub first : ℕ

abbrev pub terms : Shares → ℕ → Cut → ℕ → ℕ → Terms
terms shares step cut members first = record { shares = shares; step = step; cut = cut; members = members; first = first }

-- how many months are billed
abbrev pub bills : History → ℕ
bills h = length (months_billed h)

-- a month on file: one of the latest billed
abbrev pub OnFile : Terms → History → ℕ → Type 0
OnFile t h k = (t.first ≤ k) × (k < t.first + bills h) × (t.first + bills h ≤ k + MONTHS_ON_FILE)

-- what is promised after every list of accepted calls
pub record Promise (t : Terms) (h : History) (s : LedgerState) : Type 0 where
  -- cents booked are the cents billed, the thirteen balances and the cents waiting in the heads
  pub adds_up : cents_booked h ≡ cents_billed h +ℤ sum_z (balances s.accounts) +ℤ sum_z s.heads
  -- the heads hold what was booked since the last bill
  pub waits : s.heads ≡ waiting h
  -- a balance is the component's cost so far less its cents billed
  pub balance : (c : ℕ) → c < 13 → (account_at s.accounts c).balance ≡ cost_of t.cut c h -ℤ billed_of c h
  -- bill and differences are the rule's share of the month's pool at the units last read,
  pub share : (k c m : ℕ) → OnFile t h k → c < 13 → m < t.members
      → cents_of k c m h ≡ at (t.shares (pool_of t.cut k c h) (units_last_read k c h)) m
  -- zero where that member's units last read are zero,
  pub unused : (k c m : ℕ) → OnFile t h k → c < 13 → m < t.members
      → slice_index (units_last_read k c h) m ≡ 0 → cents_of k c m h ≡ pos 0
  -- and, where anybody had units, within the rule's tolerance of the exact share
  pub near : (k c m : ℕ) → OnFile t h k → c < 13 → m < t.members → 0 < sum (units_last_read k c h)
      → Near t.step (pool_of t.cut k c h) (sum (units_last_read k c h)) (slice_index (units_last_read k c h) m) (cents_of k c m h)
  -- the file's line holds that sum and those units
  pub line : (k c m : ℕ) → OnFile t h k → c < 13 → m < t.members
      → slice_index_or s.file (line_place t.members k c m) no_line
      ≡ record { units = slice_index (units_last_read k c h) m; cents = cents_of k c m h }

-- what the next call has to find beside the promise, so that it can keep it
pub record Invariant (t : Terms) (h : History) (s : LedgerState) : Type 0 where
  -- months are billed in a row from the first on, and the next one is open
  pub months : months_billed h ≡ months_from t.first (bills h)
  pub current : s.accounts.month ≡ t.first + bills h
  pub begun : s.accounts.first ≡ t.first
  pub members : s.accounts.members ≡ t.members
  -- an account holds the pools of the months on file
  pub pool : (k c : ℕ) → OnFile t h k → c < 13
      → slice_index_or (account_at s.accounts c).pools (k % MONTHS_ON_FILE) (pos 0) ≡ pool_of t.cut k c h
  -- which are in range, as are the units; each member has units
  pub pool_small : (k c : ℕ) → OnFile t h k → c < 13 → unsigned_abs (pool_of t.cut k c h) ≤ MOST_CENTS
  pub units_small : (k c : ℕ) → OnFile t h k → c < 13 → sum (units_last_read k c h) ≤ MOST_UNITS
  pub units_long : (k c : ℕ) → OnFile t h k → c < 13 → length (units_last_read k c h) ≡ t.members
  -- nothing is billed for a month that is not billed yet
  pub unbilled : (k c m : ℕ) → t.first + bills h ≤ k → cents_of k c m h ≡ pos 0

-- both together, as a call finds and leaves them
pub record Kept (t : Terms) (h : History) (s : LedgerState) : Type 0 where
  pub promise : Promise t h s
  pub invariant : Invariant t h s
