-- What a ledger and its month file hold between two calls.
use Rattle.std.specs.Prelude.{ℕ, ◌+◌, Bool, cond, ◌&&◌, List, [], ◌∷◌, map, replicate, ℤ, pos, nat_le, nat_lt, slice_index_or}
use Rattle.refusal.specs.Answers.{Answer, done, refused}
use Rattle.refusal.specs.declared.Layer.TheVariants as layer
use Rattle.ledger.specs.declared.line.Line.{Line}
use Rattle.ledger.specs.declared.account.Account.{Account}
use Rattle.ledger.specs.declared.accounts.Accounts.{Accounts}
use Rattle.limits.specs.Ranges.{month_lawful, count_lawful}
use Rattle.limits.specs.declared.TheConstants.{MONTHS_ON_FILE}

-- the six heads, the accounts and the month file
pub record LedgerState : Type 0 where
  pub heads : List ℤ
  pub accounts : Accounts
  pub file : List Line

abbrev pub ledger_state : List ℤ → Accounts → List Line → LedgerState
ledger_state heads accounts file = record { heads = heads; accounts = accounts; file = file }

-- nothing waits in the heads
abbrev pub no_heads : List ℤ
no_heads = pos 0 ∷ pos 0 ∷ pos 0 ∷ pos 0 ∷ pos 0 ∷ pos 0 ∷ []

-- an account without a balance and without pools
abbrev pub new_account : Account
new_account = record { balance = pos 0; pools = replicate MONTHS_ON_FILE (pos 0) }

-- the account of the component at place c
abbrev pub account_at : Accounts → ℕ → Account
account_at s c = slice_index_or s.rows c (record { balance = pos 0; pools = [] })

abbrev pub balances : Accounts → List ℤ
balances s = map (λ a. a.balance) s.rows

abbrev pub opened : ℕ → ℕ → Accounts
opened members first = record { members = members; first = first; month = first; rows = replicate 13 new_account }

-- 4 where the members are none or too many, then 5 where the first month is too early or too late
abbrev pub opening_rule : ℕ → ℕ → Answer Accounts
opening_rule members first =
    cond (count_lawful members)
    (cond (month_lawful first) (done (opened members first)) (refused 5 layer.Ledger 0))
    (refused 4 layer.Ledger 0)

-- whether a month is one of the latest billed, which are on file
abbrev pub is_on_file : Accounts → ℕ → Bool
is_on_file s k = nat_le s.first k && (nat_lt k s.month && nat_le s.month (k + MONTHS_ON_FILE))
