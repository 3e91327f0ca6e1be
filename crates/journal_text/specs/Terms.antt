-- The terms of a ledger: one rule, one sheet and the members' account numbers.
use Rattle.std.specs.Prelude.{ℕ, Bool, true, false, ◌&&◌, List, map, ◌==◌, nat_eq}
use lib.Pointwise.{pointwise}
use Rattle.month_text.specs.declared.month.Member.{Member}
use Rattle.month_text.specs.declared.month.Month.{Month}
use Rattle.sharing.specs.declared.name.RuleName.{RuleName}
use Rattle.sharing.specs.declared.name.RuleName.TheVariants.{Posted, Ratio}
use Rattle.month_text.specs.declared.month.SheetLines.{SheetLines}

abbrev pub same_rule : RuleName → RuleName → Bool
same_rule Posted Posted = true
same_rule Posted Ratio = false
same_rule Ratio Posted = false
same_rule Ratio Ratio = true

abbrev pub same_numbers : List ℕ → List ℕ → Bool
same_numbers = pointwise nat_eq

abbrev pub same_sheet : SheetLines → SheetLines → Bool
same_sheet a b =
    same_numbers a.division b.division && (same_numbers a.management b.management && same_numbers a.split b.split)

-- the account numbers in the members' order; places that no member has are blank, with account number 0
abbrev pub account_numbers : List Member → List ℕ
account_numbers members = map (λ m. m.account) members

abbrev pub same_accounts : Month → Month → Bool
same_accounts a b =
    (a.count == b.count) && same_numbers (account_numbers a.members) (account_numbers b.members)

abbrev pub same_terms : Month → Month → Bool
same_terms a b = same_rule a.rule b.rule && (same_sheet a.sheet b.sheet && same_accounts a b)
