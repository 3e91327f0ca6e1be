use Rattle.std.proofs.lemmas.Result.{err_from_is_err_and}
use Rattle.month_bill.specs.Members.{book_reading}
use Rattle.month_bill.proofs.Chains.{in_front, left_charged, left_refused}
use Rattle.month_bill.proofs.bill.bill_on.Goals as goal

pub returns : goal.returns
returns g c =
    let same = in_front c.args.ledger.now (book_reading c.args.book.now) c.members-count.result c.members-count.ensures c.requires in
    let e = c.in_ok-components.ensures in
    rw (c.member_rows-members.ensures) (left_charged _ _ c.in_ok-components.components _ _ c.args.members same e.answered e.cells)

pub returns-in_err-components : goal.returns-in_err-components
returns-in_err-components g c =
    let same = in_front c.args.ledger.now (book_reading c.args.book.now) c.members-count.result c.members-count.ensures c.requires in
    let f = err_from_is_err_and c.from_residual.result c.from_residual.ensures.1 in
    rw (f.1, f.2) (left_refused _ _ _ _ _ _ same c.in_err-components.ensures.answered)
