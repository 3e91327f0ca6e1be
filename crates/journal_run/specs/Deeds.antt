-- The orders that a journal's entries give, and the ledger that they are given to.
use Rattle.std.specs.Prelude.{ℕ, cond, ◌&&◌, List, [], ◌∷◌, ◌++◌, map, replicate, nat_le}
use Rattle.refusal.specs.Answers.{Answer, done, refused, next}
use Rattle.refusal.specs.declared.Layer.TheVariants as layer
use Rattle.tariff.specs.Costs.{costs}
use Rattle.sharing.specs.Shares.{Shares}
use Rattle.bottom_books.specs.Tables.{cell}
use Rattle.month_text.specs.declared.month.Month.{Month}
use Rattle.journal_text.specs.declared.entry.Action.{Action}
use Rattle.journal_text.specs.declared.entry.Action.TheVariants as action
use Rattle.journal_text.specs.declared.entry.Entry.{Entry}
use Rattle.ledger.specs.Files.{file_length, no_line}
use Rattle.ledger.specs.declared.accounts.Accounts.{Accounts}
use Rattle.ledger.specs.States.{opening_rule}
use Rattle.ledger.specs.Readings.{Reading, reading}
use Rattle.ledger.specs.Kept.{Terms, terms}
use Rattle.runs.specs.Orders.{Deed, World, book, bill, resettle}
use Rattle.runs.specs.Runs.{new_world}
use Rattle.sharing.specs.Names.{shares_of, step_of}
use Rattle.month_bill.specs.Bills.{month_sheet}
use Rattle.month_bill.specs.Members.{month_units}
use Rattle.limits.specs.declared.TheConstants.{MOST_TEXT_MEMBERS}

-- what the fact book of a month is read as, where its members have these units
abbrev pub month_reading : Month → List (List ℕ) → Reading
month_reading m rows = reading m.month m.count (cell rows)

-- a bill books its costs first; the costs of a resettlement were booked with their bill
abbrev pub deeds_for : Action → Month → Reading → List Deed
deeds_for action.Bill m b = book m.control m.cost ∷ bill b ∷ []
deeds_for (action.Resettle component) m b = resettle component b ∷ []

-- an order, behind the entry that gives it
abbrev pub EntryOrder : Type 0
EntryOrder = Entry × Deed

abbrev pub order_entries : List EntryOrder → List Entry
order_entries orders = map (λ o. o.0) orders

abbrev pub deeds_of : List EntryOrder → List Deed
deeds_of orders = map (λ o. o.1) orders

-- the orders of one entry
abbrev pub given_by : Entry → List (List ℕ) → List EntryOrder
given_by e rows = map (λ d. (e, d)) (deeds_for e.action e.month (month_reading e.month rows))

-- some orders, and behind them those of one entry more
abbrev pub orders_with : List EntryOrder → Entry → Answer (List EntryOrder)
orders_with orders e = next (month_units e.month) (λ rows. done (orders ++ given_by e rows))

-- the orders of all entries; refused where a month's fact book is
abbrev pub orders_of : List Entry → Answer (List EntryOrder)
orders_of [] = done []
orders_of (e ∷ entries) =
    next (month_units e.month) (λ rows.
    next (orders_of entries) (λ orders.
    done (given_by e rows ++ orders)))

-- what opens a ledger by a month: 4 where it has no members, or more than a text may have, then the sheet
-- and the first month
abbrev pub opens : Month → Answer Accounts
opens m =
    cond (nat_le 1 m.count && nat_le m.count MOST_TEXT_MEMBERS)
    (next (month_sheet m) (λ _. opening_rule m.count m.month))
    (refused 4 layer.Ledger 0)

-- a month's terms, by a rule's shares and its step
abbrev pub terms_by : Shares → ℕ → Month → Terms
terms_by shares step m = terms shares step (costs m.sheet.division m.sheet.management m.sheet.split) m.count m.month

abbrev pub month_terms : Month → Terms
month_terms m = terms_by (shares_of m.rule) (step_of m.rule) m

-- the terms on which a month opens the ledger
abbrev pub opening : Month → Answer Terms
opening m = next (opens m) (λ _. done (month_terms m))

-- the ledger that is opened, and an empty month file
abbrev pub first_world : Month → World
first_world m = new_world m.count m.month (replicate (file_length m.count) no_line)
