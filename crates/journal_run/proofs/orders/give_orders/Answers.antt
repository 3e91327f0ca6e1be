use Rattle.std.proofs.Common.{rules, ap, ℤ, ◌++◌, ◌∷◌, [], arith, ◌∙◌, w64}
use Rattle.std.proofs.lemmas.Int.{to_z-of_z}
use Rattle.runs.specs.Orders.{book}
use Rattle.journal_run.specs.Meanings.{given_orders}
use Rattle.journal_run.proofs.Giving.{answered_done, bill_given, resettlement_given}
use Rattle.journal_run.proofs.orders.give_orders.Goals as goal

pub returns-in_ok-push-in-Bill-clause-answered : goal.returns-in_ok-push-in-Bill-clause-answered
returns-in_ok-push-in-Bill-clause-answered c =
    let e = c.args.entry.now in
    let units = c.in_ok-book.book.units in
    let b = c.in_ok-book.ensures in
    let old = given_orders c.args.given.now in
    let first = c.in_ok-push-in-Bill.ensures.given ∙ ap (λ (z : ℤ). old ++ (e, book z e.month.cost) ∷ []) (to_z-of_z w64 e.month.control (search rules)) in
    answered_done _ _ c.push-in-Bill.result _ c.push-in-Bill.ensures.given c.push-in-Bill.ensures.memory
    (bill_given e units.month units.count units.rows old _ c.in-Bill.is b.count (omega (arith, units.long, b.count)) b.made.0 b.made.1 b.answered first)

pub returns-in-Resettle-clause-answered : goal.returns-in-Resettle-clause-answered
returns-in-Resettle-clause-answered c =
    let e = c.args.entry.now in
    let units = c.in_ok-book.book.units in
    let b = c.in_ok-book.ensures in
    let old = given_orders c.args.given.now in
    answered_done _ _ c.push-in-Resettle.result _ c.push-in-Resettle.ensures.given c.push-in-Resettle.ensures.memory (resettlement_given e c.in-Resettle.component units.month units.count units.rows old c.in-Resettle.is b.count (omega (arith, units.long, b.count)) b.made.0 b.made.1 b.answered)
