use Rattle.std.proofs.Common.{arith, rules}
use Rattle.ledger.proofs.Differences.{differences_small}
use Rattle.ledger.proofs.changes.find_changes.Goals as goal

pub balance_left-requires-clause-changes : goal.balance_left-requires-clause-changes
balance_left-requires-clause-changes c =
    let s = differences_small c.args.shares.now c.args.lines.now c.requires.lines c.requires.shares (search rules) in
    rw c.write_differences.ensures (omega (arith, s, c.requires.few))
