use Rattle.std.proofs.Common.{pos, arith, rules}
use Rattle.std.proofs.lemmas.List.FromFn.{fill_by_all}
use Rattle.statement.specs.Charges.{member_charge, member_charges}
use Rattle.statement.proofs.FromFn.{made_from}
use Rattle.statement.proofs.month.member_charges.Goals as goal

pub returns : goal.returns
unfolding member_charges
returns c =
    let s = c.args.statement.now in
    let f = member_charge s c.args.member in
    fill_by_all f c.from_fn.result 13 (pos 0) c.from_fn.ensures.items.long
    (λ k below. made_from _ _ _ f (pos 0) (λ j y q called. (search rules, search rules)) 13 0 c.from_fn.ensures.items.each k (omega arith) (omega arith))
