use Rattle.std.proofs.Common.{◌^◌, ◌<◌, length, get_or, pos, arith, w64, SFits, rules}
use borrow.Author.Differences.{ints}
use Rattle.cents.proofs.SignedSums.{sum_more}
use Rattle.cents.proofs.totals.sum_of.Goals as goal

pub loop-amount-preserved : goal.loop-amount-preserved
loop-amount-preserved c =
    let s : length c.args.amounts.now < 2 ^ 63 = search rules in
    let f : SFits w64 (get_or c.args.amounts.now c.loop-amount.amount-index (pos 0)) = search rules in
    let m = sum_more c.args.amounts.now c.loop-amount.amount-index (omega arith) in
    (omega (arith, ints, m), omega (arith, ints))
