use Rattle.std.proofs.Common.{refl, arith}
use Rattle.std.proofs.lemmas.List.{length-set}
use Rattle.statement.proofs.Statements.{cells_none, cells_more, component_charges_none, component_charges_more}
use Rattle.statement.proofs.checks.TestedMonth.charge.Goals as goal

pub loop-place-init : goal.loop-place-init
loop-place-init g c =
    let sh = g.R.Rule.shares c.args.rule.now in
    let long = g.met.R.Rule.long c.args.rule.now in
    let m = c.args.self.now in
    (refl, component_charges_none sh long m.pools m.units.rows.now, cells_none sh long m.pools m.units.rows.now c.args.statement.now)

pub loop-place-preserved : goal.loop-place-preserved
loop-place-preserved g c =
    let sh = g.R.Rule.shares c.args.rule.now in
    let long = g.met.R.Rule.long c.args.rule.now in
    let m = c.args.self.now in
    let k = c.loop-place.place in (
      simp length-set c.loop-place.invariant.0,
      component_charges_more sh long m.pools m.units.rows.now k c.loop-place.charge-items c.charge_component.result (omega arith) c.loop-place.invariant.1 c.charge_component.ensures.value,
      cells_more sh long m.pools m.units.rows.now k _ c.args.statement.now c.loop-place.statement c.charge_component.new.row (omega arith) c.loop-place.invariant.2 c.charge_component.ensures.row,
    )
