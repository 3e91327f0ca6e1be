use Rattle.journal_run.proofs.Pairs.{entry_orders_more}
use Rattle.journal_run.proofs.given.Given.push.Goals as goal

pub returns-clause-given : goal.returns-clause-given
returns-clause-given c =
    let a = c.in_ok-push.ensures in
    let b = c.in_ok-push-2.ensures in
    rw (a.items, b.items) (entry_orders_more c.args.self.now.entries.items c.args.self.now.orders.items c.args.entry c.args.order c.requires)
