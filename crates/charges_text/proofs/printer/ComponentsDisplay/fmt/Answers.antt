use Rattle.std.proofs.Common.{refl, arith, rules, get_or, pos, SFits, w64}
use Rattle.std.proofs.Output.{has_written_append, has_written_of_eq}
use Rattle.std.proofs.lemmas.Int.{to_z-of_z}
use Rattle.statement.specs.declared.charge.ComponentCharge.{ComponentCharge}
use Rattle.charges_text.proofs.Pieces.{lines_more}
use Rattle.charges_text.proofs.printer.ComponentsDisplay.fmt.Goals as goal

-- past the last component
abbrev none : ComponentCharge
none = record { pool = pos 0; units = 0; balance = pos 0 }

pub loop-i-preserved : goal.loop-i-preserved
loop-i-preserved g c = λ plain.
    let before = c.loop-i.invariant plain in
    let charges = c.args.self.now.0 in
    let pool : SFits w64 (get_or charges c.loop-i.i none).pool = search rules in
    let balance : SFits w64 (get_or charges c.loop-i.i none).balance = search rules in
    has_written_of_eq _ _ _ _ _
    (rw (to_z-of_z w64 (get_or charges c.loop-i.i none).pool pool, to_z-of_z w64 (get_or charges c.loop-i.i none).balance balance) (lines_more charges c.loop-i.i none (omega arith)))
    (has_written_append _ _ _ _ _ _ before (c.in_ok-writeln.ensures.writes before.plain refl))
