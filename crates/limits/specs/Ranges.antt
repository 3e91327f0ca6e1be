-- Which months and how many members there may be.
use Rattle.std.specs.Prelude.{ℕ, Bool, ◌&&◌, nat_le}
use Rattle.limits.specs.declared.TheConstants.{FIRST_MONTH, LAST_MONTH, MOST_MEMBERS}

-- whether a month can be billed
abbrev pub month_lawful : ℕ → Bool
month_lawful month = nat_le FIRST_MONTH month && nat_le month LAST_MONTH

-- whether a ledger, a book or a statement may have so many members
abbrev pub count_lawful : ℕ → Bool
count_lawful members = nat_le 1 members && nat_le members MOST_MEMBERS
