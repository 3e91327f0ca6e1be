-- What a resettlement answers, and what it leaves.
use Rattle.std.specs.Prelude.{ℕ, ◌+◌, ◌-◌, ◌%◌, Bool, cond, ◌&&◌, ◌||◌, List, [], ◌∷◌, length, ℤ, pos, ◌-ℤ◌, sum, ◌==◌, nat_le, slice_index_or, slice_set, unsigned_abs}
use Rattle.refusal.specs.Answers.{Answer, done, refused, next}
use Rattle.refusal.specs.declared.Layer.TheVariants as layer
use Rattle.cents.specs.Cutting.{sum_z}
use Rattle.std.specs.List.{list_all}
use Rattle.tariff.specs.Heads.{within}
use Rattle.statement.specs.Columns.{kind_of}
use Rattle.sharing.specs.Shares.{Shares}
use Rattle.ledger.specs.declared.line.Line.{Line}
use Rattle.ledger.specs.declared.accounts.Accounts.{Accounts}
use Rattle.ledger.specs.Readings.{Reading, units_read}
use Rattle.ledger.specs.Files.{row_start, lines_of, put, part}
use Rattle.ledger.specs.States.{LedgerState, account_at, is_on_file}
use Rattle.ledger.specs.Billing.{Left, memory_rule}
use Rattle.limits.specs.declared.TheConstants.{MONTHS_ON_FILE, MOST_LINE_CENTS, MOST_UNITS}

-- the components whose units are reconciled
abbrev pub reconciled : ℕ → Bool
reconciled component = component == 8 || component == 11

-- new shares less the cents billed to date
abbrev pub differences : List ℤ → List Line → List ℤ
differences [] lines = []
differences (z ∷ shares) [] = []
differences (z ∷ shares) (l ∷ lines) = (z -ℤ l.cents) ∷ differences shares lines

-- the cents of a line are in range
abbrev pub cents_within : Line → Bool
cents_within l = nat_le (unsigned_abs l.cents) MOST_LINE_CENTS

-- the balance that is left: lowered by the sum of the differences
abbrev pub balance_left : ℤ → List ℤ → List Line → ℤ
balance_left balance shares lines = balance -ℤ sum_z (differences shares lines)

-- 8 where the units of the kind at a place are too many
abbrev pub kind_rule : ℕ → List ℕ → Answer (Unit {0})
kind_rule kind units = cond (nat_le (sum units) MOST_UNITS) (done tt) (refused 8 layer.Ledger (kind + 1))

-- 10 where the cents of a line or the balance that is left are out of range
abbrev pub new_balance_rule : ℕ → List ℤ → ℤ → List Line → Answer ℤ
new_balance_rule component shares balance lines =
    let left = balance_left balance shares lines in
    cond (list_all cents_within lines && within left) (done left) (refused 10 layer.Ledger component)

-- 8 at the component's own kind, then 10; else the balance that is left
abbrev pub change_rule : ℕ → List ℕ → List ℤ → ℤ → List Line → Answer ℤ
change_rule component units shares balance lines =
    cond (nat_le (sum units) MOST_UNITS)
    (new_balance_rule component shares balance lines)
    (refused 8 layer.Ledger (kind_of (component - 1) + 1))

-- a row of lines, of the component at place c, resettled by a book: a pool's shares by the units read,
abbrev pub row_shares : Shares → ℤ → Reading → ℕ → List ℤ
row_shares shares pool b c = shares pool (units_read b c)

-- the lines, which then hold those units and shares,
abbrev pub row_lines : Shares → ℤ → Reading → ℕ → List Line
row_lines shares pool b c = lines_of (units_read b c) (row_shares shares pool b c)

-- the cells, which are what changes in the lines,
abbrev pub row_cells : Shares → ℤ → Reading → ℕ → List Line → List ℤ
row_cells shares pool b c lines = differences (row_shares shares pool b c) lines

-- and the answer, which is the balance that is left
abbrev pub resettled_row_rule : Shares → ℤ → ℤ → Reading → ℕ → List Line → Answer ℤ
resettled_row_rule shares pool balance b c lines =
    change_rule (c + 1) (units_read b c) (row_shares shares pool b c) balance lines

-- the row of the book's month and the component at place c, and that month's own pool
abbrev pub lines_at : Accounts → List Line → Reading → ℕ → List Line
lines_at a file b c = part (row_start a.members b.month c) a.members file

abbrev pub pool_on_file : Accounts → Reading → ℕ → ℤ
pool_on_file a b c = slice_index_or (account_at a c).pools (b.month % MONTHS_ON_FILE) (pos 0)

-- that pool, shared by the units read
abbrev pub shares_again : Shares → Accounts → Reading → ℕ → List ℤ
shares_again shares a b c = row_shares shares (pool_on_file a b c) b c

-- the file with that row resettled, the cells of the statement, and the answer
abbrev pub file_resettled : Shares → Accounts → List Line → Reading → ℕ → List Line
file_resettled shares a file b c = put (row_start a.members b.month c) (row_lines shares (pool_on_file a b c) b c) file

abbrev pub cells_resettled : Shares → Accounts → List Line → Reading → ℕ → List ℤ
cells_resettled shares a file b c = row_cells shares (pool_on_file a b c) b c (lines_at a file b c)

abbrev pub resettled_rule : Shares → Accounts → List Line → Reading → ℕ → Answer ℤ
resettled_rule shares a file b c =
    resettled_row_rule shares (pool_on_file a b c) (account_at a c).balance b c (lines_at a file b c)

-- the accounts with another balance of the component at place c
abbrev pub settled : ℕ → ℤ → Accounts → Accounts
settled c balance s =
    record {
      members = s.members;
      first = s.first;
      month = s.month;
      rows = slice_set s.rows c (record { balance = balance; pools = (account_at s c).pools });
    }

-- the differences in the statement, the new units and shares in the lines, and the balance lowered
abbrev pub resettle_leaves : Shares → LedgerState → Reading → ℕ → ℤ → Left
resettle_leaves shares s b c balance =
    record {
      state = record {
        heads = s.heads;
        accounts = settled c balance s.accounts;
        file = file_resettled shares s.accounts s.file b c;
      };
      cells = cells_resettled shares s.accounts s.file b c;
      components = [];
    }

-- 5 where the book's month is not on file, then the row
abbrev pub on_file_rule : Shares → LedgerState → Reading → ℕ → Answer Left
on_file_rule shares s b component =
    let c = component - 1 in
    cond (is_on_file s.accounts b.month)
    (next
    (change_rule component (units_read b c) (shares_again shares s.accounts b c) (account_at s.accounts c).balance (lines_at s.accounts s.file b c))
    (λ balance. done (resettle_leaves shares s b c balance)))
    (refused 5 layer.Ledger 0)

-- before that 6, 11 for the file, 11 for the statement of one cell a member, and 4
abbrev pub resettle_rule : Shares → LedgerState → Reading → ℕ → ℕ → Answer Left
resettle_rule shares s b component cells =
    cond (reconciled component)
    (next (memory_rule s.accounts.members (length s.file) cells s.accounts.members b.count) (λ _. on_file_rule shares s b component))
    (refused 6 layer.Ledger 0)
