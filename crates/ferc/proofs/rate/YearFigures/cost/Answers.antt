use Rattle.std.proofs.Common.{arith}
use borrow.Author.Differences.{ints}
use Rattle.ferc.proofs.Charges.{cost_each}
use Rattle.ferc.proofs.rate.YearFigures.cost.Goals as goal

pub returns : goal.returns
returns c =
    let e = cost_each c.args.self.now.estimate c.args.self.now.paid c.args.self.now.recovered c.requires in
    record { value = omega (arith, ints, e.0, e.1, e.2); small = omega (arith, ints, e.0, e.1, e.2) }
