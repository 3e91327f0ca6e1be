use Rattle.std.proofs.Common.{ℤ, Ok, Err, refl, ap, ◌∙◌, w64, rules}
use Rattle.std.proofs.lemmas.Int.{to_z-of_z}
use Rattle.std.proofs.lemmas.Result.{err_from_is_err_and}
use Rattle.month_voucher.specs.Costs.{cost_rule}
use Rattle.ledger.specs.Ledgers.{state_of, terms_of}
use Rattle.runs.proofs.Booked.{vouched}
use Rattle.runs.proofs.carrying.book_costs.Goals as goal

pub returns-clause-carried : goal.returns-clause-carried
returns-clause-carried g c =
    let l = c.args.ledger.now in
    let costs = c.args.costs.now in
    let e = c.in_ok-voucher.ensures.answered ∙ ap (λ (x : ℤ). cost_rule x costs.amounts) (to_z-of_z w64 costs.control (search rules)) in
    let p = c.in_ok-book.ensures in
    λ file. vouched (terms_of l) (state_of l file) costs.control costs.amounts c.in_ok-voucher.voucher.amounts (state_of c.book.new.self file) (Ok c.in_ok-book.field-0) e p.answered (rw (p.heads, p.same.2) refl) (p.promise file) (p.invariant file)

pub returns-in_err-book-clause-carried : goal.returns-in_err-book-clause-carried
returns-in_err-book-clause-carried g c =
    let l = c.args.ledger.now in
    let costs = c.args.costs.now in
    let e = c.in_ok-voucher.ensures.answered ∙ ap (λ (x : ℤ). cost_rule x costs.amounts) (to_z-of_z w64 costs.control (search rules)) in
    let p = c.in_err-book.ensures in
    let f = err_from_is_err_and c.from_residual-in_err-book.result c.from_residual-in_err-book.ensures.1 in
    λ file. rw (f.1, f.2) (vouched (terms_of l) (state_of l file) costs.control costs.amounts c.in_ok-voucher.voucher.amounts (state_of c.book.new.self file) (Err c.in_err-book.field-0.0) e p.answered (rw (p.heads, p.same.2) refl) (p.promise file) (p.invariant file))
