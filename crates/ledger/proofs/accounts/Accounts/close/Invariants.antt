use Rattle.ledger.proofs.Closed.{Closing}
use Rattle.ledger.proofs.accounts.Accounts.close.Given as goal

abbrev pub invariant-loop-place : goal.invariant-loop-place
invariant-loop-place l = Closing l.slot l.charges l.initial.account-items l.place l.account-items
