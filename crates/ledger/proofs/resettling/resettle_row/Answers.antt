use Rattle.std.proofs.Common.{◌+◌, ◌≤◌, List, get_or, ℤ, pos, nat_abs, sym, refl, subst, w64, ◌≡◌, ◌∙◌, rules}
use Rattle.std.proofs.lemmas.Result.{err_from_is_err_and}
use Rattle.std.proofs.lemmas.Int.{to_z-of_z}
use Rattle.sharing.proofs.Lawful.{share_small}
use Rattle.statement.specs.Columns.{kind_of, column}
use Rattle.ledger.specs.Readings.{reading_of, rows_read}
use Rattle.ledger.proofs.Differences.{change_answered}
use Rattle.ledger.proofs.resettling.resettle_row.Goals as goal
use Rattle.limits.specs.declared.TheConstants.{MOST_SHARED}

pub find_changes-requires-clause-shares : goal.find_changes-requires-clause-shares
find_changes-requires-clause-shares g c =
    let x = c.args.rule.now in
    let q = c.in_ok-share_again.ensures.shared in
    let us = column (rows_read (reading_of g.B.Book c.args.book.now)) c.kind.result.place in
    λ m. subst (λ (ss : List ℤ). nat_abs (get_or ss m (pos 0)) ≤ (MOST_SHARED + 1)) (sym q) (share_small g.R.Rule.STEP _ us _ g.met.R.Rule.stepped (g.met.R.Rule.idle x _ us) (g.met.R.Rule.fair x _ us) m)

pub returns-in_err-left-clause-answered : goal.returns-in_err-left-clause-answered
returns-in_err-left-clause-answered g c =
    let p = err_from_is_err_and c.from_residual-in_err-left.result c.from_residual-in_err-left.ensures.1 in
    let given = c.args.given in
    let rows = rows_read (reading_of g.B.Book c.args.book.now) in
    let sh = g.R.Rule.shares c.args.rule.now in
    let e = c.kind.ensures in
    let z = to_z-of_z w64 given.pool (search rules) in
    let q : c.share_again.new.fresh ≡ sh given.pool (column rows (kind_of given.component.place)) = c.in_ok-share_again.ensures.shared ∙ rw (z, e) refl in
    let t = c.in_err-left.ensures.answered in
    rw (p.1, p.2) (change_answered given.component.place c.kind.result.place rows (sh given.pool (column rows (kind_of given.component.place))) given.balance c.args.lines.now _ e c.in_ok-share_again.ensures.answered (rw q at t))
