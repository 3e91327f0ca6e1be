use Rattle.std.proofs.Common.{◌≡◌, length, sum, ap, ◌∙◌, arith, rules}
use Rattle.cents.specs.Cutting.{cut, sum_z}
use Rattle.cents.proofs.Parts.{cut_sum}
use Rattle.cents.proofs.cutting.cut.Goals as goal

pub returns : goal.returns
returns g c =
    let n : length c.args.weights ≡ g.row.N = search rules in
    let t : c.total.result ≡ sum c.args.weights = c.total.ensures.exact (omega arith) in
    let s = c.split.ensures.cut (search rules) t in
    let p : c.split.new.out ≡ cut c.args.amount c.args.weights = search rules in
    record { parts = p; whole = λ h. ap sum_z p ∙ cut_sum c.args.amount c.args.weights h }
