use Rattle.journal_run.specs.Deeds.{month_terms, first_world}
use Rattle.journal_run.specs.Meanings.{entry_orders}
use Rattle.journal_run.proofs.Joined.{counts, run_is, text_is}
use Rattle.journal_run.proofs.Through.{entries_done}
use Rattle.journal_run.proofs.answer.entries_text.Goals as goal

pub ran_text-requires-clause-counts : goal.ran_text-requires-clause-counts
ran_text-requires-clause-counts c =
    let given = c.in_ok-given.given in
    rw c.as_slice-2.ensures.value (counts c.args.entries.now given.entries.items given.orders.items c.in_ok-given.ensures.answered c.in_ok-given.ensures.paired)

pub returns-clause-answered : goal.returns-clause-answered
returns-clause-answered c =
    let entries = c.args.entries.now in
    let first = c.in-Some.first.now in
    let given = c.in_ok-given.given in
    let ran = c.in_ok-ran.ran in
    let orders = entry_orders given.entries.items given.orders.items in
    text_is entries first orders _ c.in-Some.ensures.value c.in_ok-given.ensures.answered c.in_ok-ran.ensures.answered (c.in_ok-ran_text.ensures (month_terms first.month) (first_world first.month) orders
    (rw c.as_slice-2.ensures.value (run_is entries given.entries.items given.orders.items c.in_ok-given.ensures.answered c.in_ok-given.ensures.paired first.month ran (rw c.as_slice.ensures.value at c.in_ok-ran.ensures.ran) c.in_ok-ran.ensures.wide)))

pub returns-clause-run : goal.returns-clause-run
returns-clause-run c = entries_done c.args.entries.now

pub returns-in_err-given-clause-run : goal.returns-in_err-given-clause-run
returns-in_err-given-clause-run c = entries_done c.args.entries.now

pub returns-in_err-ran-clause-run : goal.returns-in_err-ran-clause-run
returns-in_err-ran-clause-run c = entries_done c.args.entries.now
