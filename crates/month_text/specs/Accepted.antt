-- What holds of every month that is accepted.
use Rattle.std.specs.Prelude.{◌≡◌, ℕ, ◌<◌, ◌≤◌, true, List, [], ◌∷◌, length, get_or, take, ℤ, pos, sum, slice_index, slice_index_or, unsigned_abs}
use Rattle.units.specs.Kinds.{lawful}
use Rattle.month_text.specs.declared.month.Member.{Member}
use Rattle.month_text.specs.declared.month.Month.{Month}
use Rattle.month_text.specs.Members.{blank}
use Rattle.limits.specs.declared.TheConstants.{FIRST_MONTH, LAST_MONTH, MOST_ACCOUNT, MOST_CENTS, MOST_CONTROL, MOST_TEXT_MEMBERS}

-- each number up to the most; past the end of the list there are zeros
abbrev pub EachTo : ℕ → List ℕ → Type 0
EachTo most ns = (k : ℕ) → slice_index ns k ≤ most

abbrev pub EachWithin : ℕ → List ℤ → Type 0
EachWithin most zs = (k : ℕ) → unsigned_abs (slice_index_or zs k (pos 0)) ≤ most

-- accounts up to 999,999, each above the one before it
abbrev pub Rising : ℕ → List Member → Type 0
Rising last [] = Unit {0}
Rising last (m ∷ ms) = (last < m.account) × (m.account ≤ MOST_ACCOUNT) × Rising m.account ms

abbrev pub EachLawful : List Member → Type 0
EachLawful ms = (k : ℕ) → lawful (get_or ms k blank).facts ≡ true

-- the 32 places of a month's members
pub record Placed (count : ℕ) (members : List Member) : Type 0 where
  pub places : length members ≡ MOST_TEXT_MEMBERS
  pub rising : Rising 0 (take count members)
  pub facts_lawful : EachLawful members

-- weights and splits in thousandths
pub record Weighed (division management split : List ℕ) : Type 0 where
  pub division_each : EachTo 1000 division
  pub division_whole : sum division ≡ 1000
  pub management_each : EachTo 1000 management
  pub management_whole : sum management ≡ 1000
  pub split_each : EachTo 1000 split

-- a month's numbers, as far as callers may lean on them
pub record InRange (m : Month) : Type 0 where
  pub month_low : FIRST_MONTH ≤ m.month
  pub month_high : m.month ≤ LAST_MONTH
  pub weighed : Weighed m.sheet.division m.sheet.management m.sheet.split
  pub cost_each : EachWithin MOST_CENTS m.cost
  pub control_within : unsigned_abs m.control ≤ MOST_CONTROL
  pub count_low : 1 ≤ m.count
  pub count_high : m.count ≤ MOST_TEXT_MEMBERS
  pub placed : Placed m.count m.members
