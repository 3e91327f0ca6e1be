use Rattle.month_text.proofs.Spelled.{read_as_spelled}
use Rattle.month_text.proofs.numbers.number.Goals as goal

pub returns-in-48-to-57-clause-spelled : goal.returns-in-48-to-57-clause-spelled
returns-in-48-to-57-clause-spelled c = read_as_spelled c.args.s.now

pub returns-in_default-clause-spelled : goal.returns-in_default-clause-spelled
returns-in_default-clause-spelled c = read_as_spelled c.args.s.now
