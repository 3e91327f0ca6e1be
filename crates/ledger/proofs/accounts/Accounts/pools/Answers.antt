use Rattle.std.proofs.Common.{◌≡◌, ℕ, length, get_or, pos, ◌+ℤ◌, sym, ◌∙◌, arith, w64, rules}
use Rattle.std.proofs.lemmas.List.{ext_get_or}
use Rattle.std.proofs.lemmas.Int.{to_z-of_z}
use Rattle.tariff.specs.Heads.{sums}
use Rattle.statement.proofs.FromFn.{made_from}
use Rattle.ledger.specs.States.{balances, account_at}
use Rattle.ledger.proofs.Closed.{pool_at, pools_length}
use Rattle.ledger.proofs.accounts.Accounts.pools.Goals as goal

pub returns : goal.returns
returns c =
    let costs = c.args.costs in
    let s = c.args.self.now in
    let e : length costs ≡ length s.rows = search rules in
    let f = λ (k : ℕ). get_or costs k (pos 0) +ℤ (account_at s k).balance in
    ext_get_or (pos 0) c.from_fn.result (sums costs (balances s)) (omega (arith, c.from_fn.ensures.items.long, pools_length costs s e))
    (λ k below. made_from _ _ _ f (pos 0) (λ j y q called. (search rules, let z = to_z-of_z w64 (get_or costs j (pos 0)) (search rules) in search (rules, z))) 13 0 c.from_fn.ensures.items.each k (omega arith) (omega (arith, c.from_fn.ensures.items.long)) ∙ sym (pool_at costs s k e (omega (arith, c.from_fn.ensures.items.long))))
