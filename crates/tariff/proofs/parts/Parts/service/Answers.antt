use Rattle.std.proofs.Common.{◌+◌, arith}
use borrow.Author.Differences.{ints}
use Rattle.tariff.proofs.parts.Parts.service.Goals as goal

pub overflow_add-result-3 : goal.overflow_add-result-3
overflow_add-result-3 c = omega (arith, ints, c.args.self.now.divided c.args.i, c.args.self.now.managed c.args.i, c.args.self.now.small (c.args.i + 1))

pub returns : goal.returns
returns c =
    omega (arith, ints, c.args.self.now.divided c.args.i, c.args.self.now.managed c.args.i, c.args.self.now.small (c.args.i + 1))
