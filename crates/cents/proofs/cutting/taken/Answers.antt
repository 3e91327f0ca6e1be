use Rattle.std.proofs.Common.{◌≡◌, min, pos, ◌*ℤ◌, sym, subst, arith, rules, w64, to_z, of_z, refl, SFits}
use borrow.Author.Differences.{ints}
use mir.Syntax.{w128}
use Rattle.std.proofs.lemmas.Int.{to_z-of_z}
use Rattle.cents.specs.Rounding.{Inside}
use Rattle.cents.specs.Cutting.{taken}
use Rattle.cents.proofs.Parts.{taken_up_to_inside, product_fits}
use Rattle.cents.proofs.cutting.taken.Goals as goal

quotient : (c : goal.After-down) → c.down.result ≡ taken c.args.amount c.args.whole (min c.args.run c.args.whole)
quotient c =
    let f : SFits w128 (c.args.amount *ℤ pos c.min-run.result) = product_fits c.args.amount c.args.amount (pos c.min-run.result) c.min-run.result c.ranges.amount (omega arith) refl refl in
    grind (arith, ints, to_z-of_z)

pub overflow_cast-result : goal.overflow_cast-result
overflow_cast-result c =
    let i = taken_up_to_inside c.args.amount c.args.whole c.args.run in
    omega (arith, ints, quotient c, i.0, i.1)

pub returns-in-Some-clause-inside : goal.returns-in-Some-clause-inside
returns-in-Some-clause-inside c =
    let v : to_z w64 (of_z w64 c.in-Some.cents) ≡ taken c.args.amount c.args.whole (min c.args.run c.args.whole) = search rules in
    subst (Inside c.args.amount) (sym v) (taken_up_to_inside c.args.amount c.args.whole c.args.run)

pub returns-in-None : goal.returns-in-None
returns-in-None c =
    let i = taken_up_to_inside c.args.amount c.args.whole c.args.run in
    let v : to_z w64 (of_z w64 (to_z w128 (of_z w128 c.down.result))) ≡ taken c.args.amount c.args.whole (min c.args.run c.args.whole) = omega (arith, ints, quotient c, i.0, i.1) in
    record { value = v; inside = subst (Inside c.args.amount) (sym v) i }
