use Rattle.journal_run.proofs.Through.{run_once_read}
use Rattle.journal_run.proofs.answer.run_journal.Goals as goal

pub returns-clause-run : goal.returns-clause-run
returns-clause-run c = run_once_read c.args.text.now

pub returns-in_err-entries-clause-run : goal.returns-in_err-entries-clause-run
returns-in_err-entries-clause-run c = run_once_read c.args.text.now
