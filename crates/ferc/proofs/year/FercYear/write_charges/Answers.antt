use Rattle.std.proofs.Common.{◌∙◌, mul-le-mul, arith, w64, rules, to_z, of_z}
use Rattle.std.proofs.lemmas.Int.{to_z-of_z}
use Rattle.limits.specs.declared.TheConstants.{MOST_UNITS}
use Rattle.ferc.specs.declared.rate.TheConstants.{MOST_RATE}
use Rattle.ferc.proofs.Charges.{ask_is, charges_more}
use Rattle.ferc.proofs.year.FercYear.write_charges.Goals as goal

pub charge-requires : goal.charge-requires
charge-requires g c =
    let book = c.args.book.now in
    let rate = to_z-of_z w64 c.args.self.now.rate (search rules) in
    let units = ask_is (g.B.Book.count book) (g.B.Book.units book 1 c.loop-i.i) c.loop-i.i c.in_ok-units.units (omega arith) c.in_ok-units.ensures in
    let bounded = g.met.B.Book.units_in_range book 1 c.loop-i.i in
    mul-le-mul {n₂ = MOST_RATE} {m₂ = MOST_UNITS} (rw rate c.args.self.now.rated) (omega (arith, units, bounded))

pub loop-i-preserved : goal.loop-i-preserved
loop-i-preserved g c =
    let book = c.args.book.now in
    let rate = to_z-of_z w64 c.args.self.now.rate (search rules) in
    let charge = to_z-of_z w64 c.charge.result (record { sfits = c.charge.type_inv }) in
    let units = ask_is (g.B.Book.count book) (g.B.Book.units book 1 c.loop-i.i) c.loop-i.i c.in_ok-units.units (omega arith) c.in_ok-units.ensures in
    charges_more c.args.self.now.rate (g.B.Book.units book) (g.B.Book.count book) c.loop-i.i c.loop-i.statement (to_z w64 (of_z w64 c.charge.result)) (omega arith) (omega arith)
    (charge ∙ c.charge.ensures ∙ rw (rate, units)) c.loop-i.invariant
