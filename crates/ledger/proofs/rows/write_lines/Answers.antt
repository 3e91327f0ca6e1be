use Rattle.std.proofs.Common.{get_or, pos, arith, w64, rules}
use Rattle.std.proofs.lemmas.Int.{to_z-of_z}
use Rattle.ledger.proofs.ByComponent.{line_more, lines_end}
use Rattle.ledger.proofs.rows.write_lines.Goals as goal

pub loop-i-preserved : goal.loop-i-preserved
loop-i-preserved g c =
    let i = c.loop-i.i in
    let z = to_z-of_z w64 (get_or c.args.cents.now i (pos 0)) (search rules) in
    λ us e t. line_more us c.args.cents.now c.loop-i.lines i _ _ e (omega (arith, e)) (omega (arith, c.requires.lines)) (t i c.units.result (omega (arith, e)) c.units.ensures) z (c.loop-i.invariant us e t)

pub returns : goal.returns
returns g c = λ us e t. lines_end us c.args.cents.now c.loop-i.lines c.loop-i.i e (omega (arith, e)) (omega (arith, c.requires.lines)) (c.loop-i.invariant us e t)
