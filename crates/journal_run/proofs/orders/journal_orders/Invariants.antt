use Rattle.std.proofs.Common.{◌≡◌, length}
use Rattle.journal_run.proofs.Giving.{GivenSoFar}
use Rattle.journal_run.specs.Meanings.{given_orders}
use Rattle.journal_run.proofs.orders.journal_orders.Given as goal

-- the orders so far, before those of the entries that are left
abbrev pub invariant-loop-entry : goal.invariant-loop-entry
invariant-loop-entry l = record {
  answered : GivenSoFar l.entries l.entry-index (given_orders l.given);
  paired : length l.given.entries.items ≡ length l.given.orders.items;
}
