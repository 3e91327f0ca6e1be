use mir.Syntax.{w128}
use Rattle.std.proofs.Common.{refl, ◌≡◌, ◌∙◌, ◌++◌, take, codes, decimal, to_z, of_z, SFits, arith, rules}
use Rattle.std.specs.Fmt.{signed_decimal}
use Rattle.std.specs.List.{flat_map}
use Rattle.std.proofs.lemmas.List.{take_all}
use Rattle.std.proofs.lemmas.Int.{to_z-of_z}
use Rattle.std.proofs.Output.{has_written_append, has_written_of_eq}
use Rattle.cents.specs.Cutting.{sum_z}
use Rattle.charges_text.specs.Printed.{charge_part, member_fields}
use Rattle.charges_text.proofs.lines.MemberChargeDisplay.fmt.Goals as goal

pub returns-clause-writes : goal.returns-clause-writes
returns-clause-writes g c = λ plain ok.
    let m = c.args.self.now in
    let i = c.loop-charge.charge-index in
    let fits : SFits w128 c.sum_of-sum.result = search rules in
    let all : take i m.charges ≡ m.charges = take_all i m.charges (omega arith) in
    let sum : to_z w128 (of_z w128 c.sum_of-sum.result) ≡ sum_z m.charges = to_z-of_z w128 c.sum_of-sum.result fits ∙ c.sum_of-sum.ensures.sum in
    let same : decimal m.account ++ (flat_map charge_part (take i m.charges) ++ (codes "," ++ signed_decimal (to_z w128 (of_z w128 c.sum_of-sum.result)))) ≡ member_fields m = rw (sum, all) refl in
    let account = c.in_ok-write.ensures.writes plain refl in
    let charges = c.loop-charge.invariant account.plain in
    has_written_of_eq _ _ _ _ _ same (has_written_append _ _ _ _ _ _ account (has_written_append _ _ _ _ _ _ charges (c.write-2.ensures.writes charges.plain ok)))
