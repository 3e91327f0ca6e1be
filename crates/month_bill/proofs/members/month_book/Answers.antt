use Rattle.std.proofs.Common.{◌≡◌, ℕ, ◌-◌, length, take, sym, ap, ◌∙◌, arith, rules}
use Rattle.std.proofs.lemmas.Result.{err_from_is_err_and}
use Rattle.refusal.specs.Answers.{done}
use Rattle.units.specs.Kinds.{units_of}
use Rattle.bottom_books.specs.Tables.{table_rule}
use Rattle.month_voucher.proofs.Filled.{unbare}
use Rattle.month_bill.proofs.Listed.{units_of_facts}
use Rattle.month_bill.proofs.members.month_book.Goals as goal

pub returns-clause-answered : goal.returns-clause-answered
returns-clause-answered c =
    let m = c.args.month.now in
    let facts = c.all_facts-facts.result in
    let k : length (take (m.count - 0) facts) ≡ m.count = search rules in
    let answered = units_of_facts m facts (omega arith) c.all_facts-facts.ensures in
    ap (λ (n : ℕ). done (take n c.fill.new.self.units.rows)) (sym k) ∙ sym c.in_ok-fill.ensures.after.2
    ∙ ap (λ (n : ℕ). table_rule units_of m.month (take n facts)) {x = m.count - 0} {y = m.count} (omega arith) ∙ answered

pub returns-in_err-fill-clause-answered : goal.returns-in_err-fill-clause-answered
returns-in_err-fill-clause-answered c =
    let m = c.args.month.now in
    let facts = c.all_facts-facts.result in
    let p = err_from_is_err_and c.from_residual.result c.from_residual.ensures.1 in
    let answered = units_of_facts m facts (omega arith) c.all_facts-facts.ensures in
    rw (p.1, p.2) (unbare (table_rule units_of m.month (take (m.count - 0) facts)) _ _ _ c.in_err-fill.ensures.answered
    ∙ ap (λ (n : ℕ). table_rule units_of m.month (take n facts)) {x = m.count - 0} {y = m.count} (omega arith) ∙ answered)
