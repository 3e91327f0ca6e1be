use Rattle.std.proofs.Common.{rules, ◌≡◌, ◌∙◌, sym, Some, None}
use Rattle.journal_text.specs.Pieces.{lines, action_of}
use Rattle.journal_text.proofs.FirstLines.{front_line}
use Rattle.journal_text.proofs.pieces.entry_line.Goals as goal

pub returns-in_err-action-clause-action : goal.returns-in_err-action-clause-action
returns-in_err-action-clause-action c =
    let l = c.in_ok-line.line.now in
    let f = front_line c.args.text.now l (lines c.in_ok-line.field-0-1.now) c.min.result (search rules) (search rules) in
    let n : action_of l ≡ None = search rules in
    rw c.from_residual-in_err-action.ensures (sym n ∙ f.action)

pub returns-clause-action : goal.returns-clause-action
returns-clause-action c =
    let l = c.in_ok-line.line.now in
    let f = front_line c.args.text.now l (lines c.in_ok-line.field-0-1.now) c.min.result (search rules) (search rules) in
    search (rules, f.action)

pub returns-clause-rest : goal.returns-clause-rest
returns-clause-rest c =
    let l = c.in_ok-line.line.now in
    let f = front_line c.args.text.now l (lines c.in_ok-line.field-0-1.now) c.min.result (search rules) (search rules) in
    let a : action_of l ≡ Some c.in_ok-action.action = search rules in
    rw c.split_at.ensures.back (f.rest c.in_ok-action.action a)
