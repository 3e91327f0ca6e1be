use Rattle.std.proofs.lemmas.Result.{err_from_is_err_and}
use Rattle.tariff.specs.Heads.{sums}
use Rattle.ledger.specs.Readings.{reading_of}
use Rattle.ledger.specs.States.{balances}
use Rattle.ledger.proofs.Passed.{bill_answered}
use Rattle.ledger.proofs.billing.charge_book.Goals as goal

pub returns-in_err-charges-clause-answered : goal.returns-in_err-charges-clause-answered
returns-in_err-charges-clause-answered g c =
    let p = err_from_is_err_and c.from_residual-in_err-charges.result c.from_residual-in_err-charges.ensures.1 in
    let book = c.args.book.now in
    let few = g.met.B.Book.count_in_range book in
    rw (p.1, p.2) (bill_answered c.args.accounts.now _ (sums c.args.costs (balances c.args.accounts.now)) (reading_of g.B.Book book) _ _ _ _ _ c.in_ok-check_memory.ensures c.month.ensures c.if-month-accounts.false c.in_ok-read_book.ensures.after few.0 few.1 c.pools-pools.ensures c.in_err-charges.ensures.answered)

pub returns-clause-answered : goal.returns-clause-answered
returns-clause-answered g c =
    let book = c.args.book.now in
    let few = g.met.B.Book.count_in_range book in
    bill_answered c.args.accounts.now _ (sums c.args.costs (balances c.args.accounts.now)) (reading_of g.B.Book book) _ _ _ _ _ c.in_ok-check_memory.ensures c.month.ensures c.if-month-accounts.false c.in_ok-read_book.ensures.after few.0 few.1 c.pools-pools.ensures c.in_ok-charges.ensures.answered
