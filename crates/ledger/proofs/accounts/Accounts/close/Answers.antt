use Rattle.std.proofs.Common.{refl, arith, rules}
use Rattle.ledger.proofs.Closed.{closing_more, closing_end}
use Rattle.ledger.proofs.accounts.Accounts.close.Goals as goal

pub loop-place-preserved : goal.loop-place-preserved
loop-place-preserved c =
    let s = c.args.self.now in
    closing_more c.slot_of-slot.result c.args.charges s.rows (search rules) (search rules) c.loop-place.place c.loop-place.account-items c.loop-place.invariant _ (omega arith) c.close.ensures

pub returns : goal.returns
returns c =
    let s = c.args.self.now in
    rw (closing_end c.slot_of-slot.result c.args.charges s.rows (search rules) (search rules) c.loop-place.place c.loop-place.account-items c.loop-place.invariant (omega arith), c.slot_of-slot.ensures) refl
