use Rattle.std.proofs.Common.{◌≡◌, length, rules}
use Rattle.sharing.specs.Posted.{posted}
use Rattle.sharing.specs.Ratio.{ratio}
use Rattle.month_bill.specs.Bills.{charges_of, bill_by}
use Rattle.month_bill.proofs.Passing.{bill_late, late_answer}
use Rattle.month_bill.proofs.bill.bill_month.Goals as goal

pub returns-in-Posted-with_rule-clause-late : goal.returns-in-Posted-with_rule-clause-late
returns-in-Posted-with_rule-clause-late c r =
    let m = c.args.month.now in
    let six : length m.cost ≡ 6 = search rules in
    late_answer charges_of c.bill_by.result (bill_by posted m) c.bill_by.ensures (bill_late m r posted six)

pub returns-in-Ratio-with_rule-clause-late : goal.returns-in-Ratio-with_rule-clause-late
returns-in-Ratio-with_rule-clause-late c r =
    let m = c.args.month.now in
    let six : length m.cost ≡ 6 = search rules in
    late_answer charges_of c.bill_by-2.result (bill_by ratio m) c.bill_by-2.ensures (bill_late m r ratio six)
