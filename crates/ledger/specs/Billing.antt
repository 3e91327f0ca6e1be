-- What a bill answers, and what it leaves.
use Rattle.std.specs.Prelude.{ℕ, ◌+◌, ◌*◌, ◌%◌, cond, List, [], ◌∷◌, length, ℤ, ◌==◌, slice_set}
use Rattle.refusal.specs.Answers.{Answer, done, refused, next, after}
use Rattle.refusal.specs.declared.Layer.TheVariants as layer
use Rattle.tariff.specs.Heads.{sums}
use Rattle.statement.specs.declared.charge.ComponentCharge.{ComponentCharge}
use Rattle.statement.specs.Checks.{totals_rule, pools_rule}
use Rattle.sharing.specs.Shares.{Shares}
use Rattle.statement.specs.Charges.{component_charges, cells}
use Rattle.ledger.specs.declared.line.Line.{Line}
use Rattle.ledger.specs.declared.account.Account.{Account}
use Rattle.ledger.specs.declared.accounts.Accounts.{Accounts}
use Rattle.ledger.specs.Readings.{Reading, rows_read}
use Rattle.ledger.specs.Files.{file_length, row_start, lines_of, units_by_component, put}
use Rattle.ledger.specs.States.{LedgerState, no_heads, balances}
use Rattle.limits.specs.declared.TheConstants.{MONTHS_ON_FILE}

-- a sheet: it cuts six heads into thirteen component costs
abbrev pub Cut : Type 0
Cut = List ℤ → List ℤ

-- what a call leaves: the state, the cells that it wrote, and a bill's components
pub record Left : Type 0 where
  pub state : LedgerState
  pub cells : List ℤ
  pub components : List ComponentCharge

-- the state that is left, and the cells of the statement: after a refusal, those that there were
abbrev pub state_left : Answer Left → LedgerState → LedgerState
state_left answer s = after answer (λ left. left.state) s

abbrev pub cells_left : Answer Left → List ℤ → List ℤ
cells_left answer cells = after answer (λ left. left.cells) cells

-- each component's pool: its cost and its balance
abbrev pub pools_of : List ℤ → Accounts → List ℤ
pools_of costs a = sums costs (balances a)

abbrev pub pools_for : Cut → LedgerState → List ℤ
pools_for cut s = pools_of (cut s.heads) s.accounts

-- 11 where the file has not its length, 11 where the statement has not the cells that are wanted,
-- 4 where the book has not the ledger's members
abbrev pub memory_rule : ℕ → ℕ → ℕ → ℕ → ℕ → Answer (Unit {0})
memory_rule members lines cells wanted count =
    cond (lines == file_length members)
    (cond (cells == wanted) (cond (count == members) (done tt) (refused 4 layer.Ledger 0)) (refused 11 layer.Ledger 0))
    (refused 11 layer.Ledger 0)

-- 8 at the lowest kind whose total is too large, then 9 at the lowest component whose pool is out of range
unfoldable pub ranges_rule : List ℤ → List (List ℕ) → Answer (Unit {0})
ranges_rule pools rows = next (totals_rule rows 0 7) (λ _. pools_rule pools 0)

-- after these 5 where the book's month is not open, then the ranges
abbrev pub bill_check : Accounts → List ℤ → Reading → ℕ → ℕ → Answer (Unit {0})
bill_check a pools b lines cells =
    next (memory_rule a.members lines cells (13 * a.members) b.count) (λ _.
    cond (b.month == a.month) (ranges_rule pools (rows_read b)) (refused 5 layer.Ledger 0))

-- an account after a bill: what is left of its pool, and the pool in the month's slot
abbrev pub billed_account : ℕ → ComponentCharge → Account → Account
billed_account slot charge a = record { balance = charge.balance; pools = slice_set a.pools slot charge.pool }

abbrev pub billed_accounts : ℕ → List ComponentCharge → List Account → List Account
billed_accounts slot [] rows = []
billed_accounts slot (x ∷ charges) [] = []
billed_accounts slot (x ∷ charges) (a ∷ rows) = billed_account slot x a ∷ billed_accounts slot charges rows

abbrev pub closed : List ComponentCharge → Accounts → Accounts
closed charges s =
    record {
      members = s.members;
      first = s.first;
      month = s.month + 1;
      rows = billed_accounts (s.month % MONTHS_ON_FILE) charges s.rows;
    }

-- what each component is charged, and the cells of the statement, by the pools and the units read
abbrev pub charges_billed : Shares → List ℤ → Reading → List ComponentCharge
charges_billed shares pools b = component_charges shares pools (rows_read b) 13

abbrev pub cells_billed : Shares → List ℤ → Reading → List ℤ
cells_billed shares pools b = cells shares pools (rows_read b) 13

-- the file with the lines of the open month: units read and cells written
abbrev pub slot_written : Accounts → Reading → List ℤ → List Line → List Line
slot_written a b cells file = put (row_start a.members a.month 0) (lines_of (units_by_component (rows_read b) 13) cells) file

-- every component's shares in the statement, its rest in its account, its lines in the month's slot;
-- nothing waits any more, and the next month is open
abbrev pub bill_leaves : Shares → Cut → LedgerState → Reading → Left
bill_leaves shares cut s b =
    let pools = pools_for cut s in
    let charges = charges_billed shares pools b in
    let written = cells_billed shares pools b in
    record {
      state = record {
        heads = no_heads;
        accounts = closed charges s.accounts;
        file = slot_written s.accounts b written s.file;
      };
      cells = written;
      components = charges;
    }

abbrev pub bill_rule : Shares → Cut → LedgerState → Reading → ℕ → Answer Left
bill_rule shares cut s b cells =
    next (bill_check s.accounts (pools_for cut s) b (length s.file) cells) (λ _. done (bill_leaves shares cut s b))
