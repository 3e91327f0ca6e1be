use Rattle.std.proofs.Common.{◌≡◌, ℕ, sym, ap, ◌∙◌}
use Rattle.std.proofs.lemmas.Result.{MatchResult-weaker}
use Rattle.std.proofs.lemmas.Option.{cond_some}
use Rattle.std.proofs.lemmas.Bool.{cond-true}
use Rattle.bottom_books.specs.declared.unit_table.UnitTable.{UnitTable}
use Rattle.bottom_books.specs.Tables.{table_rule}
use Rattle.bottom_books.specs.Standings.{period_lawful, standing_units, standing_rule}
use Rattle.bottom_books.proofs.standing_book.MeasuredBook+Period.fill.Goals as goal

pub returns-clause-after : goal.returns-clause-after
returns-clause-after c =
    let p = c.in-Some.period in
    let k = cond_some (period_lawful c.args.hours c.args.days) (c.args.hours, c.args.days) (p.hours, p.days) (sym c.in-Some.ensures) in
    let e : standing_rule c.args.month c.args.hours c.args.days c.args.members.now ≡ table_rule (standing_units p.hours p.days) c.args.month c.args.members.now =
    cond-true (period_lawful c.args.hours c.args.days) _ _ k.0
    ∙ ap (λ (u : ℕ × ℕ). table_rule (standing_units u.0 u.1) c.args.month c.args.members.now) k.1 in
    MatchResult-weaker c.fill.result c.fill.ensures.after (λ x h. (h.0, h.1, e ∙ h.2)) (λ x h. ap (λ (u : UnitTable). record { units = u; form = c.args.self.now.form }) h)
