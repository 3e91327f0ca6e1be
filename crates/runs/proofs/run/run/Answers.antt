use Rattle.std.proofs.Common.{◌≡◌, ◌*◌, ◌&&◌, eqb, map, length, sym, refl, ◌∙◌, subst}
use Rattle.std.proofs.lemmas.Bool.{cond-true, and_from, eq-eqb}
use Rattle.ledger.specs.States.{LedgerState, ledger_state, no_heads, opened}
use Rattle.ledger.specs.Kept.{Terms}
use Rattle.ledger.specs.Ledgers.{state_of, terms_of, terms_with}
use Rattle.runs.specs.Orders.{deed_of}
use Rattle.runs.specs.Runs.{world_at, Ran}
use Rattle.runs.proofs.run.run.Goals as goal

pub returns : goal.returns
returns g c =
    let p = c.in_ok-open.ensures in
    let o = p.after in
    let new = c.open.new.self in
    let file = c.args.file.now in
    let members = c.args.members in
    let first = c.args.first in
    let deeds = map (deed_of g.B.Book) c.args.orders.now in
    let last = state_of c.run_orders.new.ledger c.run_orders.new.file in
    let orders = length c.args.orders.now in
    let outcomes = length c.args.outcomes.now in
    let cells = length c.args.statements.now in
    let t : terms_of new ≡ terms_with g.R.Rule c.args.rule c.args.sheet members first = rw (o.0, o.1, o.3) refl in
    let s : state_of new file ≡ ledger_state no_heads (opened members first) file = rw (o.2, o.3) refl in
    let fits = and_from (eqb outcomes orders) (eqb cells (orders * (13 * members))) (eq-eqb outcomes orders c.if-outcomes-orders.false) (sym c.if-not-cells_fit.ensures) in
    record {
      answered = p.answered ∙ sym (cond-true (eqb outcomes orders && eqb cells (orders * (13 * members))) _ _ fits);
      ran =
          subst (λ (u : LedgerState). Ran (terms_with g.R.Rule c.args.rule c.args.sheet members first) (world_at u) deeds c.run_orders.new.outcomes c.args.statements.now c.run_orders.new.statements last) s
          (subst (λ (u : Terms). Ran u (world_at (state_of new file)) deeds c.run_orders.new.outcomes c.args.statements.now c.run_orders.new.statements last) t c.run_orders.ensures.ran);
      same = (c.run_orders.ensures.same.0 ∙ o.0, c.run_orders.ensures.same.1 ∙ o.1);
      refused = tt;
    }
