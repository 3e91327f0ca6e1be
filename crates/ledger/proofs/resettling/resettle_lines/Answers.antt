use Rattle.std.proofs.Common.{◌+◌, ◌-◌, ◌%◌, get_or, pos, ap, ◌∙◌, arith, w64, rules}
use Rattle.std.proofs.lemmas.Int.{to_z-of_z}
use Rattle.ledger.specs.Readings.{reading_of}
use Rattle.ledger.specs.Files.{row_start}
use Rattle.ledger.specs.States.{account_at}
use Rattle.ledger.proofs.Resettled.{row_answered, file_done, cells_done}
use Rattle.ledger.proofs.resettling.resettle_lines.Goals as goal
use Rattle.limits.specs.declared.TheConstants.{MONTHS_ON_FILE}

pub returns : goal.returns
returns g c =
    let a = c.args.accounts.now in
    let book = c.args.book.now in
    let b = reading_of g.B.Book book in
    let i = c.args.component.place in
    let start = c.row_start-start.result in
    let k = start + a.members - start in
    let sh = g.R.Rule.shares c.args.rule.now in
    let em = c.month-month.ensures in
    let ep = to_z-of_z w64 (get_or (account_at a i).pools c.slot_of.result (pos 0)) (search rules) ∙ ap (λ m. get_or (account_at a i).pools m (pos 0)) c.slot_of.ensures ∙ ap (λ m. get_or (account_at a i).pools (m % MONTHS_ON_FILE) (pos 0)) em in
    let eb = to_z-of_z w64 (account_at a i).balance (search rules) in
    let es = c.row_start-start.ensures ∙ ap (λ m. row_start a.members m i) em in
    record {
      answered = row_answered sh a c.args.file.now b i _ _ start k ep eb es (omega arith) _ c.resettle_row.ensures.answered;
      file = file_done sh a c.args.file.now b i _ _ start k ep eb es (omega arith) c.resettle_row.result c.resettle_row.new.lines (omega (arith, c.resettle_row.auto.lines)) c.resettle_row.ensures.lines;
      cells = cells_done sh a c.args.file.now b i _ _ start k ep eb es (omega arith) c.resettle_row.result c.args.statement.now c.resettle_row.new.cells c.resettle_row.ensures.cells;
    }
