use Rattle.journal_run.specs.Deeds.{opens, month_terms}
use Rattle.journal_run.proofs.Ended.{opened_on}
use Rattle.journal_run.proofs.running.run_orders.Goals as goal

pub returns-in-Posted-with_rule-clause-answered : goal.returns-in-Posted-with_rule-clause-answered
returns-in-Posted-with_rule-clause-answered c = opened_on (month_terms c.args.first.now) c.run_by.result (opens c.args.first.now) c.run_by.ensures.answered

pub returns-in-Ratio-with_rule-clause-answered : goal.returns-in-Ratio-with_rule-clause-answered
returns-in-Ratio-with_rule-clause-answered c = opened_on (month_terms c.args.first.now) c.run_by-2.result (opens c.args.first.now) c.run_by-2.ensures.answered
