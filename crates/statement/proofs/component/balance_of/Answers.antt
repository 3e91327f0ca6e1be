use Rattle.std.proofs.Common.{◌^◌, ◌<◌, ◌+◌, length, arith, rules}
use borrow.Author.Differences.{ints}
use Rattle.cents.proofs.SignedSums.{sum_more}
use Rattle.statement.proofs.component.balance_of.Goals as goal

pub overflow_sub-balance : goal.overflow_sub-balance
overflow_sub-balance c =
    let s : length c.args.cells.now < 2 ^ 61 = search rules in
    let i = c.loop-cents.cents-index in
    omega (arith, ints, sum_more c.args.cells.now i (omega arith), c.requires.near (i + 1))

pub loop-cents-preserved : goal.loop-cents-preserved
loop-cents-preserved c =
    let s : length c.args.cells.now < 2 ^ 61 = search rules in
    let i = c.loop-cents.cents-index in
    omega (arith, ints, sum_more c.args.cells.now i (omega arith), c.requires.near (i + 1))
