use Rattle.std.proofs.Common.{◌≡◌, ℕ, List, ℤ, sym, ap, ◌∙◌, subst, arith, w64, to_z, of_z, rules}
use Rattle.std.proofs.lemmas.Int.{to_z-of_z}
use Rattle.cents.specs.Cutting.{sum_z}
use Rattle.tariff.specs.Heads.{at}
use Rattle.tariff.specs.Costs.{component_costs, costs, Bounded}
use Rattle.tariff.proofs.Totals.{components_are, costs_sum, costs_bounded}
use Rattle.tariff.proofs.sheet.Sheet.costs.Goals as goal
use Rattle.limits.specs.declared.TheConstants.{MOST_COST}

pub returns : goal.returns
returns c =
    let five = c.service_costs.result in
    let back : ℕ → ℤ = λ k. to_z w64 (of_z w64 (at five k)) in
    let sheet = c.args.self.now in
    let heads = c.args.heads.now.amounts in
    let v : c.joined.result ≡ costs sheet.division sheet.management sheet.split heads =
    c.joined.ensures
    ∙ components_are five c.halves-second.result c.halves-third.result c.settlement_parts.result c.split-split.result (back 0) (back 1) (back 2) (back 3) (back 4)
    (to_z-of_z w64 (at five 0) (search rules)) (to_z-of_z w64 (at five 1) (search rules)) (to_z-of_z w64 (at five 2) (search rules)) (to_z-of_z w64 (at five 3) (search rules)) (to_z-of_z w64 (at five 4) (search rules))
    c.halves-second.ensures.parts c.halves-third.ensures.parts c.settlement_parts.ensures.parts
    ∙ ap (λ (s : List ℕ). component_costs s five) c.split-split.ensures.parts
    ∙ ap (component_costs sheet.split) c.service_costs.ensures in
    let t = costs_sum sheet.division sheet.management sheet.split heads (omega arith) (omega arith) c.args.heads.now.long (omega (arith, sheet.divided)) (omega (arith, sheet.managed)) sheet.parted in
    record { value = v; whole = ap sum_z v ∙ t; small = subst (Bounded MOST_COST) (sym v) (costs_bounded sheet.division sheet.management sheet.split heads c.args.heads.now.small) }
