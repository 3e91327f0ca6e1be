use Rattle.std.proofs.Common.{◌≡◌, get_or, pos, SFits, w64, sum, refl, rules}
use Rattle.std.proofs.lemmas.Int.{to_z-of_z}
use Rattle.sharing.proofs.Lawful.{front_small}
use Rattle.statement.specs.Columns.{kind_of, column}
use Rattle.statement.specs.Charges.{charge}
use Rattle.statement.proofs.checks.TestedMonth.charge_component.Goals as goal

pub balance_of-balance-requires : goal.balance_of-balance-requires
balance_of-balance-requires g c =
    let m = c.args.self.now in
    let place = c.args.component.place in
    let pool = get_or m.pools place (pos 0) in
    let us = column m.units.rows.now (kind_of place) in
    let rule = c.args.rule.now in
    let fits : SFits w64 (get_or c.args.self.now.pools c.args.component.place (pos 0)) = search rules in
    let shared : c.share.new.out ≡ charge (g.R.Rule.shares c.args.rule.now) c.args.self.now.pools c.args.self.now.units.rows.now c.args.component.place = search rules in
    let near = front_small g.R.Rule.STEP pool us (g.R.Rule.shares rule pool us) g.met.R.Rule.stepped (g.met.R.Rule.long rule pool us) (g.met.R.Rule.idle rule pool us) (g.met.R.Rule.fair rule pool us) in
    rw (to_z-of_z w64 pool fits, shared) (record { within = m.within place; near = near })

pub returns-clause-value : goal.returns-clause-value
returns-clause-value g c =
    let pool = get_or c.args.self.now.pools c.args.component.place (pos 0) in
    let fits : SFits w64 (get_or c.args.self.now.pools c.args.component.place (pos 0)) = search rules in
    let left_fits : SFits w64 c.balance_of-balance.result = search rules in
    let shared : c.share.new.out ≡ charge (g.R.Rule.shares c.args.rule.now) c.args.self.now.pools c.args.self.now.units.rows.now c.args.component.place = search rules in
    let units : c.total-units.result ≡ sum (column c.args.self.now.units.rows.now (kind_of c.args.component.place)) = rw (← c.kind-kind.ensures) c.total-units.ensures in
    let left = rw (to_z-of_z w64 pool fits, shared) at c.balance_of-balance.ensures in
    rw (to_z-of_z w64 pool fits, to_z-of_z w64 c.balance_of-balance.result left_fits, units, left) refl
