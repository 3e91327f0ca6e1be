use Rattle.std.proofs.Common.{◌≡◌, ℕ, ◌+◌, ◌≤◌, length, ◌-ℤ◌, nat_abs, sum, ap, ◌∙◌, subst, arith, w64, to_z, of_z, rules}
use borrow.Author.Differences.{ints}
use mir.Syntax.{w128}
use Rattle.std.proofs.lemmas.Grind.{common_steps}
use Rattle.std.proofs.lemmas.List.{take_all}
use Rattle.cents.specs.Cutting.{sum_z}
use Rattle.sharing.specs.Tolerance.{slack}
use Rattle.sharing.proofs.Lawful.{front_small, whole_near}
use Rattle.limits.specs.declared.TheConstants.{MOST_SHARED}
use Rattle.rule_cases.proofs.uses.together.Given as given
use Rattle.rule_cases.proofs.uses.together.Goals as goal

-- what the three members bear is small, and it is what the code adds up
module _ (g : given.Over) (c : goal.After-sum_of g) where
  shares_sum : c.sum_of.result ≡ sum_z (g.R.Rule.shares c.args.rule.now c.args.pool c.args.units)
  shares_sum =
      let o : c.share.new.out ≡ g.R.Rule.shares c.args.rule.now c.args.pool c.args.units = grind (arith, common_steps) in
      c.sum_of.ensures.sum ∙ ap sum_z o

  small : nat_abs c.sum_of.result ≤ MOST_SHARED + 3
  small =
      let law = g.met.R.Rule in
      let ss = g.R.Rule.shares c.args.rule.now c.args.pool c.args.units in
      let n : length c.args.units ≡ 3 = search rules in
      let t = take_all 3 ss (omega (arith, law.long c.args.rule.now c.args.pool c.args.units)) in
      let f = front_small g.R.Rule.STEP c.args.pool c.args.units ss law.stepped (law.long c.args.rule.now c.args.pool c.args.units) (law.idle c.args.rule.now c.args.pool c.args.units) (law.fair c.args.rule.now c.args.pool c.args.units) 3 in
      rw (shares_sum, ← t) f

pub overflow_cast-result : goal.overflow_cast-result
overflow_cast-result g c = omega (arith, ints, small g c)

pub returns : goal.returns
returns g c =
    let law = g.met.R.Rule in
    let ss = g.R.Rule.shares c.args.rule.now c.args.pool c.args.units in
    let n : length c.args.units ≡ 3 = search rules in
    let v : to_z w64 (of_z w64 (to_z w128 (of_z w128 c.sum_of.result))) ≡ sum_z ss = omega (arith, ints, small g c, shares_sum g c) in
    let w = whole_near g.R.Rule.STEP c.args.pool c.args.units ss (law.long c.args.rule.now c.args.pool c.args.units) (law.fair c.args.rule.now c.args.pool c.args.units) in
    record { value = v; near = λ e. rw v (subst (λ (k : ℕ). nat_abs (c.args.pool -ℤ sum_z ss) ≤ slack k g.R.Rule.STEP (sum c.args.units)) n (w e)) }
