use Rattle.std.proofs.Common.{ℕ, ◌-◌, take, ap, ◌∙◌, arith}
use Rattle.std.proofs.lemmas.Result.{IfOk-weaker}
use Rattle.charges_text.specs.Printed.{printed}
use Rattle.month_bill.proofs.Listed.{rows_take}
use Rattle.journal_run.proofs.printing.bill_text.Goals as goal

pub returns : goal.returns
returns c =
    let m = c.args.month.now in
    let cells = c.args.statement.now in
    let rows = c.member_rows-rows.result in
    let same = ap (λ (n : ℕ). take n rows) {x = m.count - 0} {y = m.count} (omega arith) ∙ ap (take m.count) c.member_rows-rows.ensures ∙ rows_take cells 0 m.count m.members in
    IfOk-weaker c.charges_text.result _ _ (λ t h. h ∙ ap (printed m.month c.args.components) same) c.charges_text.ensures
