use Rattle.std.proofs.Common.{w64, rules}
use Rattle.std.proofs.lemmas.Int.{to_z-of_z}
use Rattle.tariff.specs.Heads.{at}
use Rattle.tariff.proofs.Totals.{part_small}
use Rattle.tariff.proofs.parts.Parts.cut.Goals as goal

pub invariant_of-result : goal.invariant_of-result
invariant_of-result c =
    let heads = c.amounts-heads.result in
    let parts = c.cut-division.result in
    let d = part_small (at heads 0) _ c.division.result parts (to_z-of_z w64 (at heads 0) (search rules)) (c.amounts-heads.ensures.small 0) c.cut-division.ensures.parts in
    record { divided = d; small = c.amounts-heads.ensures.small; managed = part_small (at parts 4) _ c.management.result c.cut-management.result (to_z-of_z w64 (at parts 4) (search rules)) (d 4) c.cut-management.ensures.parts }
