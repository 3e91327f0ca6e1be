use Rattle.std.proofs.Common.{◌*◌, length, pos, replicate, ap, ◌∙◌, arith}
use Rattle.std.proofs.lemmas.List.{length-replicate}
use Rattle.refusal.specs.Answers.{done}
use Rattle.tariff.specs.declared.sheet.Sheet.{Sheet}
use Rattle.ledger.specs.Files.{file_length, no_line}
use Rattle.month_bill.specs.Bills.{bill_by}
use Rattle.month_bill.specs.Members.{book_reading}
use Rattle.month_bill.proofs.Listed.{units_read}
use Rattle.month_bill.proofs.Chains.{month_billed}
use Rattle.month_bill.proofs.bill.bill_by.Goals as goal

pub returns : goal.returns
returns g c =
    let m = c.args.month.now in
    let sh = g.R.Rule.shares in
    let table = c.in_ok-book.book.units in
    let made = c.in_ok-book.ensures.made in
    let few = c.in_ok-book.ensures.count in
    let l = c.in_ok-ledger.ledger in
    let o = c.in_ok-ledger.ensures in
    let sheet = ap (λ (s : Sheet). done (s.division, s.management, s.split)) o.sheet ∙ c.in_ok-sheet.ensures in
    let units = units_read m table.rows table.count made.1 few (omega (arith, table.long, few)) c.in_ok-book.ensures.answered in
    let b = book_reading c.in_ok-book.book in
    c.bill_on.ensures
    ∙ month_billed (sh l.rule) (g.met.R.Rule.long l.rule) m l.sheet.division l.sheet.management l.sheet.split l.heads.amounts l.accounts (replicate (file_length table.count) no_line) b (length (replicate (13 * table.count) (pos 0))) c.members.result
    sheet units o.answered o.opened c.members.ensures
    (length-replicate (file_length table.count) no_line) (length-replicate (13 * table.count) (pos 0)) made.0 made.1 table.count_in_range.0 table.count_in_range.1
    ∙ ap (λ rule. bill_by (sh rule) m) o.rule
