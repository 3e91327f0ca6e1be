use Rattle.std.proofs.Common.{ℕ, rules, ◌-◌, length, take, drop, refl, ap, ◌∙◌, sym, arith}
use Rattle.refusal.specs.Answers.{done, next}
use Rattle.ledger.specs.Readings.{reading}
use Rattle.ledger.specs.Billing.{Left, bill_rule}
use Rattle.ledger.specs.Resettling.{resettle_rule}
use Rattle.ledger.specs.Histories.{billed, resettled}
use Rattle.ledger.specs.Ledgers.{state_of, terms_of}
use Rattle.runs.specs.declared.done.Done.TheVariants as ended
use Rattle.runs.specs.Orders.{bill, resettle, Carried, carried}
use Rattle.runs.proofs.Booked.{none_written}
use Rattle.runs.proofs.Called.{called, mapped, bare_is, front_written}
use Rattle.runs.proofs.carrying.carry_out.Goals as goal

pub returns-in-Bill-clause-carried : goal.returns-in-Bill-clause-carried
returns-in-Bill-clause-carried g c =
    let l = c.args.ledger.now in
    let t = terms_of l in
    let book = c.in-Bill.book in
    let b = reading (g.B.Book.month book) (g.B.Book.count book) (g.B.Book.units book) in
    let s = state_of l c.args.file.now in
    let p = c.bill.ensures in
    let r = c.bill.result in
    let leaves : Left → Carried = λ left. record { left = left; event = billed b left.cells } in
    let q = called t (bill b) s (state_of c.bill.new.self c.bill.new.file) c.args.cells.now c.bill.new.statement leaves (billed b) (λ (left : Left). left.components) ended.Billed (bill_rule t.shares t.cut s b (length c.args.cells.now)) r
    (ap (λ (n : ℕ). next (bill_rule t.shares t.cut s b n) (λ left. done (leaves left))) (sym c.requires)) (λ left. refl) (λ left. refl) p.answered p.state p.cells p.promise p.invariant in
    rw (c.in-Bill.is, mapped ended.Billed r c.map.result c.map.ensures.cases (λ v a q. q)) q.0

pub returns-in-Resettle : goal.returns-in-Resettle
returns-in-Resettle g c =
    let l = c.args.ledger.now in
    let t = terms_of l in
    let book = c.in-Resettle.book in
    let component = c.in-Resettle.component in
    let b = reading (g.B.Book.month book) (g.B.Book.count book) (g.B.Book.units book) in
    let s = state_of l c.args.file.now in
    let p = c.resettle.ensures in
    let r = c.resettle.result in
    let k = c.members-members.result - 0 in
    let cells = take k (drop 0 c.args.cells.now) in
    let rule = resettle_rule t.shares s b component (length cells) in
    let leaves : Left → Carried = λ left. record { left = left; event = resettled (component - 1) b left.cells } in
    let q = called t (resettle component b) s (state_of c.resettle.new.self c.resettle.new.file) cells c.resettle.new.statement leaves (resettled (component - 1) b) (λ (left : Left). tt) (λ _. ended.Resettled) rule r
    (ap (λ (n : ℕ). next (resettle_rule t.shares s b component n) (λ left. done (leaves left))) {x = t.members} {y = length cells} (omega (arith, c.resettle.auto.statement, c.requires, c.members-members.ensures))) (λ left. refl) (λ left. refl) (p.answered ∙ bare_is rule) p.state p.cells p.promise p.invariant in
    rw (c.in-Resettle.is, mapped (λ _. ended.Resettled) r c.map-in-Resettle.result c.map-in-Resettle.ensures.cases (λ v a q. search rules)) (record {
      carried = q.0;
      cells = front_written (carried t s (resettle component b)) c.args.cells.now c.resettle.new.statement k (omega (arith, c.resettle.auto.statement)) q.1;
      same = p.same;
    })

pub returns-in-Book-clause-cells : goal.returns-in-Book-clause-cells
returns-in-Book-clause-cells g c =
    let costs = c.in-Book.costs in
    rw c.in-Book.is (none_written (terms_of c.args.ledger.now) (state_of c.args.ledger.now c.args.file.now) costs.control costs.amounts c.args.cells.now)
