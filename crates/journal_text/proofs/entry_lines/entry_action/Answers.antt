use Rattle.std.proofs.Common.{rules, ◌≡◌, false, None, codes}
use Rattle.std.specs.Prelude.{bytes_eq}
use Rattle.month_text.specs.Lines.{past}
use Rattle.journal_text.proofs.Components.{past_other}
use Rattle.journal_text.proofs.entry_lines.entry_action.Goals as goal

pub returns-in_err-number : goal.returns-in_err-number
returns-in_err-number c =
    let e : past (codes "resettle=") c.args.line.now ≡ None = past_other (codes "resettle=") c.args.line.now (search rules) in
    let b : bytes_eq c.args.line.now (codes "bill\n") ≡ false = search rules in
    rw (b, e) c.from_residual.ensures
