use Rattle.std.proofs.Common.{take, ◌∙◌, arith}
use Rattle.std.proofs.lemmas.List.{take_all}
use Rattle.month_text.specs.Ranges.{natural_in}
use Rattle.month_text.proofs.Accepted.{each_range}
use Rattle.month_text.proofs.Eachwise.{each_end}
use Rattle.month_text.proofs.ranges.each_natural.Goals as goal

pub returns-clause-range : goal.returns-clause-range
returns-clause-range g c =
    let all = take_all c.loop-i.i c.loop-i.numbers (omega arith) in
    each_range c.args.low c.args.high c.args.xs c.loop-i.numbers (c.loop-i.invariant.1 ∙ each_end (natural_in c.args.low c.args.high) c.args.xs c.loop-i.i (take c.loop-i.i c.loop-i.numbers) c.loop-i.numbers (omega arith) all)
