-- A month's bill, from the month's values.
use Rattle.std.specs.Prelude.{ℕ, ◌*◌, List, length, replicate, ℤ, pos}
use Rattle.refusal.specs.Answers.{Answer, done, next}
use Rattle.tariff.specs.Sheets.{sheet_rule}
use Rattle.tariff.specs.Heads.{book_rule}
use Rattle.tariff.specs.Costs.{costs}
use Rattle.month_voucher.specs.Costs.{cost_rule}
use Rattle.month_text.specs.declared.month.Month.{Month}
use Rattle.month_text.specs.declared.month.Member.{Member}
use Rattle.statement.specs.declared.charge.ComponentCharge.{ComponentCharge}
use Rattle.charges_text.specs.declared.charges.MemberCharge.{MemberCharge}
use Rattle.statement.specs.Checks.{charge_rule}
use Rattle.sharing.specs.Shares.{Shares}
use Rattle.sharing.specs.Names.{shares_of}
use Rattle.statement.specs.Charges.{component_charges, cells}
use Rattle.sharing.specs.declared.rule.Rule.{Ghosts}
use Rattle.ledger.specs.declared.ledger.Ledger.{Ledger}
use Rattle.ledger.specs.Files.{file_length, no_line}
use Rattle.ledger.specs.Ledgers.{bill_of}
use Rattle.ledger.specs.Readings.{Reading}
use Rattle.ledger.specs.States.{no_heads}
use Rattle.month_bill.specs.Members.{month_units, member_rows, place_rows}
use Rattle.month_bill.specs.declared.bill.Bill.{Bill}

-- what components and members are charged
abbrev pub Charges : Type 0
Charges = List ComponentCharge × List MemberCharge

abbrev pub charges_of : Bill → Charges
charges_of bill = (bill.components, bill.members)

-- division weights, management weights, splits
abbrev pub month_sheet : Month → Answer (List ℕ × List ℕ × List ℕ)
month_sheet m =
    next (sheet_rule m.sheet.division m.sheet.management m.sheet.split) (λ _.
    done (m.sheet.division, m.sheet.management, m.sheet.split))

-- the costs, booked on empty heads by a balanced voucher
abbrev pub month_heads : Month → Answer (List ℤ)
month_heads m = next (cost_rule m.control m.cost) (λ amounts. book_rule no_heads amounts)

-- the tests of a bill, and then what components and places are charged
abbrev pub charge_places : Shares → List ℤ → List (List ℕ) → Month → Answer Charges
charge_places shares pools rows m =
    next (charge_rule pools rows (13 * length rows)) (λ _.
    done (component_charges shares pools rows 13, place_rows (cells shares pools rows 13) m))

-- the sheet is laid, the members' units are those of the month's fact book, the costs are booked, and
-- what the sheet makes of them is charged
abbrev pub bill_by : Shares → Month → Answer Charges
bill_by shares m =
    next (month_sheet m) (λ sheet.
    next (month_units m) (λ rows.
    next (month_heads m) (λ heads.
    charge_places shares (costs sheet.0 sheet.1 sheet.2 heads) rows m)))

abbrev pub bill_month : Month → Answer Charges
bill_month m = bill_by (shares_of m.rule) m

-- what a ledger's bill by a book charges the places of some members, with an empty month file
abbrev pub bill_alone : {R : Type 0} → {G : Ghosts R} → Ledger R G → Reading → List Member → Answer Charges
bill_alone l b members =
    next (bill_of l (replicate (file_length b.count) no_line) b (replicate (13 * b.count) (pos 0))) (λ left.
    done (left.components, member_rows left.cells 0 members))
