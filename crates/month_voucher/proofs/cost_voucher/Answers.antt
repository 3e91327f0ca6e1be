use Rattle.std.proofs.Common.{ℤ, sym, ap, ◌∙◌, arith, w64}
use Rattle.std.proofs.lemmas.Int.{to_z-of_z}
use Rattle.cents.specs.Cutting.{sum_z}
use Rattle.month_voucher.specs.Costs.{fill_rule}
use Rattle.month_voucher.proofs.Filled.{cost_rule_lem, cost_opened, cost_full, unbare}
use Rattle.month_voucher.proofs.cost_voucher.Goals as goal

pub returns-in-Err-clause-answered : goal.returns-in-Err-clause-answered
returns-in-Err-clause-answered c =
    let v = c.in_ok-voucher.voucher in
    let e = to_z-of_z w64 c.args.control c.ranges.control in
    let o = c.in_ok-voucher.ensures in
    let k = cost_opened c.args.control _ c.args.cost v.amounts v.control v.state e o in
    unbare (fill_rule v.control v.amounts c.args.cost) _ _ _ c.in-Err.ensures.answered
    ∙ ap (λ (z : ℤ). fill_rule z v.amounts c.args.cost) k
    ∙ sym (cost_rule_lem c.args.control _ c.args.cost v.amounts v.control v.state e o)

pub returns-clause-whole : goal.returns-clause-whole
returns-clause-whole c =
    let v = c.in_ok-voucher.voucher in
    let e = to_z-of_z w64 c.args.control c.ranges.control in
    let o = c.in_ok-voucher.ensures in
    let k = cost_opened c.args.control _ c.args.cost v.amounts v.control v.state e o in
    let f = ap (λ (z : ℤ). fill_rule z v.amounts c.args.cost) (sym k) ∙ c.in_default.ensures.amounts in
    let full = cost_full c.args.control _ c.args.cost v.amounts v.control v.state e o c.fill.new.voucher.amounts (omega arith) f in
    let same = c.in_default.ensures.control ∙ k in
    (same, full, ap sum_z (sym full) ∙ c.fill.new.voucher.even c.in_default.ensures.state ∙ same)
