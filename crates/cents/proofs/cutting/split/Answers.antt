use Rattle.std.proofs.Common.{◌≡◌, ◌+◌, ◌<◌, min, length, take, ap, arith, sum, w64, to_z, of_z, ℕ, ℤ}
use borrow.Author.Differences.{ints}
use Rattle.std.proofs.lemmas.Grind.{common_steps}
use Rattle.std.proofs.lemmas.List.Sums.{sum_by_more}
use Rattle.cents.specs.Cutting.{taken, parts_up_to}
use Rattle.cents.proofs.Parts.{parts_more, up_to_inside, up_to_cut}
use Rattle.cents.proofs.cutting.split.Goals as goal

pub loop-i-preserved : goal.loop-i-preserved
loop-i-preserved c =
    let l : c.loop-i.i < length c.args.weights.now = omega arith in
    let x : ℕ = sum (take c.loop-i.i c.args.weights.now) in
    let w = c.from.result in
    let m = sum_by_more (λ n. n) c.args.weights.now c.loop-i.i 0 l in
    let a : ℤ = to_z w64 (of_z w64 c.args.amount) in
    let T = c.args.whole in
    let f = ap (taken a T) {x = min c.loop-i.run T} {y = min x T} (omega arith) in
    let g = ap (taken a T) {x = min c.saturating_add-run.result T} {y = min (x + w) T} (omega arith) in
    let u : to_z w64 (of_z w64 c.taken-upto.result) ≡ taken a T (min c.saturating_add-run.result T) = omega (arith, ints, c.taken-upto.ensures.value) in
    let i = up_to_inside a T x w in
    let s : sum (take (c.loop-i.i + 1) c.args.weights.now) ≡ x + w = omega (arith, m) in (
      omega (arith, m),
      u,
      rw s (parts_more a T c.loop-i.i x w _ c.args.weights.now c.loop-i.out (parts_up_to a T 0 c.args.weights.now) l (omega arith) c.from.ensures
          (omega (arith, ints, u, f, g, i, c.loop-i.invariant.1, c.loop-i.before-is)) c.loop-i.invariant.2),
    )

pub returns-clause-cut : goal.returns-clause-cut
returns-clause-cut c l e =
    let u = up_to_cut c.args.amount c.args.whole c.args.weights.now e in
    grind (arith, common_steps, u)
