use Rattle.std.proofs.Common.{◌≡◌, map}
use Rattle.ledger.specs.Ledgers.{state_of, terms_of}
use Rattle.runs.specs.Orders.{deed_of}
use Rattle.runs.specs.Runs.{world_at}
use Rattle.runs.proofs.Running.{Running}
use Rattle.runs.proofs.run.run_orders.Given as goal

-- the orders so far were carried out
abbrev pub invariant-loop-i : goal.invariant-loop-i
invariant-loop-i g l =
    (l.ledger.rule ≡ l.initial.ledger.rule) × (l.ledger.sheet ≡ l.initial.ledger.sheet)
    × Running (terms_of l.initial.ledger) (world_at (state_of l.initial.ledger l.initial.file)) (map (deed_of g.B.Book) l.orders) l.i l.outcomes l.initial.statements l.statements (state_of l.ledger l.file)
