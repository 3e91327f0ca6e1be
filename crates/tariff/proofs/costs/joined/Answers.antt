use Rattle.std.proofs.Common.{arith, w64, SFits, rules}
use Rattle.std.proofs.lemmas.Int.{to_z-of_z}
use Rattle.tariff.proofs.Totals.{joined_list}
use Rattle.tariff.specs.Heads.{at}
use Rattle.tariff.proofs.costs.joined.Goals as goal

pub returns : goal.returns
returns c =
    let b0 : SFits w64 (at c.args.second 0) = search rules in
    let b1 : SFits w64 (at c.args.second 1) = search rules in
    let c0 : SFits w64 (at c.args.third 0) = search rules in
    let c1 : SFits w64 (at c.args.third 1) = search rules in
    let s0 : SFits w64 (at c.args.settled 0) = search rules in
    let s1 : SFits w64 (at c.args.settled 1) = search rules in
    let s2 : SFits w64 (at c.args.settled 2) = search rules in
    let s3 : SFits w64 (at c.args.settled 3) = search rules in
    let s4 : SFits w64 (at c.args.settled 4) = search rules in
    let s5 : SFits w64 (at c.args.settled 5) = search rules in
    let s6 : SFits w64 (at c.args.settled 6) = search rules in
    let f = c.ranges.first in
    let g = c.ranges.fourth in
    simp to_z-of_z (joined_list c.args.first c.args.fourth c.args.second c.args.third c.args.settled (omega arith) (omega arith) (omega arith))
