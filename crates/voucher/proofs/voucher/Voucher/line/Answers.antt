use Rattle.std.proofs.Common.{◌-◌, w64, arith, rules, ◌∙◌}
use Rattle.std.proofs.lemmas.Grind.{common_steps}
use Rattle.std.proofs.lemmas.Bool.{leb-true}
use Rattle.std.proofs.lemmas.Int.{to_z-of_z}
use Rattle.cents.proofs.Options.{cond_some}
use Rattle.voucher.proofs.Lines.{small_set}
use Rattle.voucher.proofs.voucher.Voucher.line.Goals as goal
use Rattle.limits.specs.declared.TheConstants.{MOST_CENTS}

pub invariant_of-self-clause-small : goal.invariant_of-self-clause-small
invariant_of-self-clause-small c =
    let s = cond_some _ _ _ c.in-Some.ensures in
    let e = to_z-of_z w64 c.in-Some.sum (search rules) ∙ s.1 in
    small_set c.args.self.now.amounts (c.args.head - 1) _ (rw e (leb-true _ MOST_CENTS s.0)) c.args.self.now.small

pub returns-clause-state : goal.returns-clause-state
returns-clause-state c = grind (arith, common_steps)
