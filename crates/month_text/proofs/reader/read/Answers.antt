use Rattle.month_text.proofs.OneSpelling.{as_spelled, one_spelling, line_count}
use Rattle.month_text.proofs.reader.read.Goals as goal

pub returns-clause-spelled : goal.returns-clause-spelled
returns-clause-spelled c = as_spelled c.args.text.now

pub returns-clause-unique : goal.returns-clause-unique
returns-clause-unique c = one_spelling c.args.text.now

pub returns-clause-lines : goal.returns-clause-lines
returns-clause-lines c = line_count c.args.text.now
