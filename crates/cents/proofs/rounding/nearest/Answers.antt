use Rattle.std.proofs.Common.{◌≡◌, ℤ, pos, ◌+ℤ◌, ◌*ℤ◌, sym, subst, arith, w64, to_z, of_z}
use borrow.Author.Differences.{ints}
use mir.Syntax.{w128}
use Rattle.cents.specs.Rounding.{round_nearest, Closest}
use Rattle.cents.proofs.Quotients.{nearest_is, nearest_inside, down_largest}
use Rattle.cents.proofs.rounding.nearest.Goals as goal

-- the dividend and the divisor, as the code makes them of the two numbers
dividend : ℤ → ℤ → ℤ
dividend a b = to_z w128 (of_z w128 (to_z w128 (of_z w128 (pos 2 *ℤ to_z w128 (of_z w128 a))) +ℤ to_z w128 (of_z w128 b)))

divisor : ℤ → ℤ
divisor b = to_z w128 (of_z w128 (pos 2 *ℤ to_z w128 (of_z w128 b)))

quotient : (c : goal.After-div_euclid) → c.div_euclid.result ≡ round_nearest c.args.a c.args.b
unfolding dividend divisor
quotient c =
    nearest_is {x = dividend c.from.result c.from-2.result} {y = divisor c.from-3.result} c.args.a c.div_euclid.result c.args.b
    c.div_euclid.ensures (omega arith) (omega (arith, ints)) (omega (arith, ints))

pub overflow_cast-result : goal.overflow_cast-result
overflow_cast-result c =
    let i = nearest_inside c.args.a c.args.b (omega arith) in
    omega (arith, ints, quotient c, i.0, i.1)

pub returns : goal.returns
returns c =
    let i = nearest_inside c.args.a c.args.b (omega arith) in
    let e = quotient c in
    let v : to_z w64 (of_z w64 (to_z w128 (of_z w128 c.div_euclid.result))) ≡ round_nearest c.args.a c.args.b = omega (arith, ints, e, i.0, i.1) in
    record { value = v; closest = λ h. subst (Closest c.args.a c.args.b) (sym v) (down_largest _ _ (omega arith)) }
