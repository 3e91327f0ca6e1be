use Rattle.std.proofs.lemmas.Result.{err_from_is_err_and}
use Rattle.journal_run.specs.Meanings.{given_orders}
use Rattle.journal_run.proofs.Giving.{given_first, given_more, given_all, giving_refused}
use Rattle.journal_run.proofs.orders.journal_orders.Goals as goal

pub loop-entry-init : goal.loop-entry-init
loop-entry-init c = record { answered = given_first c.args.entries.now _ c.new-given.ensures.given; paired = c.new-given.ensures.paired }

pub loop-entry-preserved : goal.loop-entry-preserved
loop-entry-preserved c =
    let entries = c.args.entries.now in
    let i = c.loop-entry.entry-index in
    let given = c.loop-entry.given in
    record { answered = given_more entries i _ (given_orders given) _ c.loop-entry-test.true c.loop-entry.invariant.answered c.in_ok-give_orders.ensures.answered; paired = c.in_ok-give_orders.ensures.paired }

pub returns : goal.returns
returns c =
    let given = c.loop-entry.given in
    record { answered = given_all c.args.entries.now c.loop-entry.entry-index (given_orders given) c.loop-entry-test.false c.loop-entry.invariant.answered; paired = c.loop-entry.invariant.paired }

pub returns-in_err-give_orders : goal.returns-in_err-give_orders
returns-in_err-give_orders c =
    let given = c.loop-entry.given in
    let p = err_from_is_err_and c.from_residual.result c.from_residual.ensures.1 in
    rw (p.1, p.2) (record { answered = giving_refused c.args.entries.now c.loop-entry.entry-index _ (given_orders given) _ c.loop-entry-test.true c.loop-entry.invariant.answered c.in_err-give_orders.ensures.answered; paired = tt })
