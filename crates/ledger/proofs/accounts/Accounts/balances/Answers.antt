use Rattle.std.proofs.Common.{rules}
use Rattle.ledger.specs.declared.account.Account.{Account}
use Rattle.ledger.proofs.Closed.{no_account, map_of}
use Rattle.ledger.proofs.accounts.Accounts.balances.Goals as goal

pub returns : goal.returns
returns c = map_of _ (λ (a : Account). a.balance) no_account _ _ _ _ (search rules) (λ p q x y k. search rules) c.map.ensures.items
